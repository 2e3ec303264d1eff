-- Word by word the marks are moved and set. Assumes nothing.
use Rattle.std.proofs.Common.{◌≡◌, ℕ, zero, suc, ◌+◌, ◌*◌, ◌/◌, ◌%◌, ◌<◌, ◌≤◌, ◌&&◌, ◌||◌, ltb, leb, List, get_or, sym, subst, ap, ◌∙◌, ⊎_elim, arith, rules, tests}
use Rattle.std.specs.Fn.{Called}
use Rattle.std.specs.Array.{IsFromFnResultFrom}
use denote.Param.Members.{Mut}
use Rattle.std.proofs.lemmas.Bool.{cases_lt}
use Rattle.bit_marks.specs.Marks.{marked}
use Rattle.mitl.specs.Formulas.{bit}
use Rattle.bit_marks.specs.Bits.{zero_bit}
use Rattle.bit_marks.specs.Places.{past_words}
use Rattle.bit_marks.proofs.words.Marks.advanced.Goals as goal

-- where calls leave the closure as it is, each number is what it gives at its index
each_call : {F : Type 0} {g : Mut F (ℕ × Unit {0}) ℕ} {f : F} {P : ℕ → ℕ → Type 0} → ((i y : ℕ) (q : F) → Called g f (i, tt) y q → (q ≡ f) × P i y)
    → (ys : List ℕ) (n i : ℕ) → IsFromFnResultFrom g f ys i n → (j : ℕ) → i ≤ j → j < i + n → P j (get_or ys j 0)
each_call gives ys zero i calls j h l = absurd (omega arith)
each_call {g = g} {f = f} {P = P} gives ys (suc n) i calls j h l =
    let here = gives i calls.1 calls.0 calls.3 in
    ⊎_elim
    (λ (e : j < i + 1). let same : i ≡ j = omega arith in subst (λ m. P m (get_or ys m 0)) same (subst (P i) (sym (calls.2.1 0)) here.1))
    (λ (e : i + 1 ≤ j). each_call gives ys n (i + 1) (subst (λ q. IsFromFnResultFrom g q ys (i + 1) n) here.0 calls.4) j e (omega arith)) (cases_lt j (i + 1))

pub returns : goal.returns
returns c =
    let ws = c.args.self.now.words in
    let word = each_call
    {P = λ at y. (at < c.args.count → (k : ℕ) → k < 64 → bit k y ≡ (marked ws (64 * at + k + c.args.n) || (leb c.args.reach.now.start (64 * at + k) && ltb (64 * at + k) c.args.reach.now.end))) × (c.args.count ≤ at → y ≡ 0)}
    (λ at y q k. search (rules, tests)) c.from_fn-words.result 16 0 c.from_fn-words.ensures.items.each in
    record {
      kept = λ d h.
          let place : 64 * (d / 64) + d % 64 ≡ d = omega arith in
          (word (d / 64) (omega arith) (omega arith)).0 (omega arith) (d % 64) (omega arith)
          ∙ ap (λ m. marked ws (m + c.args.n) || (leb c.args.reach.now.start m && ltb m c.args.reach.now.end)) place;
      none = λ d h. ⊎_elim (λ (l : d < 64 * 16). ap (bit (d % 64)) ((word (d / 64) (omega arith) (omega arith)).1 (omega arith)) ∙ zero_bit (d % 64)) (λ (l : 64 * 16 ≤ d). past_words c.from_fn-words.result d (omega arith)) (cases_lt d (64 * 16));
    }
