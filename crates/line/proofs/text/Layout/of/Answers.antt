-- `of` puts the line feed, the numbers, the last one first, and the letter. Assumes nothing.
use Rattle.std.proofs.Common.{◌≡◌, ℕ, ◌+◌, ◌-◌, ◌<◌, List, ◌∷◌, ◌++◌, length, get_or, drop, decimal, reverse, ap, ◌∙◌, arith}
use Rattle.std.proofs.lemmas.Iterator.Adapters.{YieldsList-from_rev_slice}
use Rattle.std.proofs.lemmas.Iterator.Consumers.{YieldsList-turn, YieldsList-end}
use Rattle.std.proofs.lemmas.List.{at_drop_all, at_drop_more, length-reverse, get_or-reverse, length_push}
use Rattle.line.specs.Lines.{numbers_line}
use Rattle.line.proofs.text.Layout.of.Goals as goal

-- number k from the end, put before those after it
one_more : (ns : List ℕ) (k n : ℕ) (line more : List ℕ) → k < length ns → n ≡ get_or (reverse ns) k n → line ≡ numbers_line (drop (length ns - k) ns) → more ≡ 32 ∷ (decimal n ++ line) → more ≡ numbers_line (drop (length ns - (k + 1)) ns)
one_more ns k n line more p q r s =
    let at : ℕ = length ns - 1 - k in
    let here : length ns - (k + 1) ≡ at = omega arith in
    let next : length ns - k ≡ at + 1 = omega arith in
    cc (get_or-reverse ns k n p, at_drop_more numbers_line ns at n (omega arith))

pub loop-number-init : goal.loop-number-init
loop-number-init c =
    let ns = c.args.numbers.now in
    let all : length ns - 0 ≡ length ns = omega arith in
    let room = c.new-line.ensures.start in
    (tt, tt, omega (arith, room), cc (c.new-line.ensures.line, at_drop_all numbers_line ns (length ns) (omega arith)))

pub loop-number-preserved : goal.loop-number-preserved
loop-number-preserved c =
    let ns = c.args.numbers.now in
    let l = c.loop-number in
    let t = YieldsList-turn (YieldsList-from_rev_slice ns cc) l.yielded _ l.yielded_by _ _ c.in-Some.number c.in-Some.is c.next.ensures.steps in
    let p = length_push l.yielded c.in-Some.number in
    (tt, tt, omega (arith, p), rw p (one_more ns (length l.yielded) c.in-Some.number.now _ _ (omega (arith, t.0, length-reverse ns)) t.1 l.invariant.3 c.number.ensures.line))

pub returns : goal.returns
returns c =
    let ns = c.args.numbers.now in
    let l = c.loop-number in
    let t = YieldsList-end (YieldsList-from_rev_slice ns cc) l.yielded _ l.yielded_by _ _ c.in-None.is c.next.ensures.steps in
    let none : length ns - length l.yielded ≡ 0 = omega (arith, t.1, length-reverse ns) in
    c.put-2.ensures.line ∙ ap (λ (xs : List ℕ). c.args.letter ∷ xs) (l.invariant.3 ∙ ap (λ (k : ℕ). numbers_line (drop k ns)) none)
