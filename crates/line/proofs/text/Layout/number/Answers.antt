-- `number` puts the digits of the number, the last one first, and a space. Assumes nothing.
use Rattle.std.proofs.Common.{ℕ, ◌+◌, ◌/◌, ◌%◌, ◌^◌, ◌<◌, List, ◌∷◌, ◌++◌, drop, decimal, sym, refl, ap, ◌∙◌, arith, rules}
use Rattle.line.proofs.Figures.{one_before, twenty, one, last_digit, one_less, next_digit}
use Rattle.line.proofs.text.Layout.number.Goals as goal

pub loop-left-init : goal.loop-left-init
loop-left-init c = let fits : c.args.number < 2 ^ 64 = search rules in let few = twenty c.args.number fits in (fits, omega arith, omega arith, omega arith, refl)

pub loop-left-preserved : goal.loop-left-preserved
loop-left-preserved c =
    let l = c.loop-left in
    let xs = l.self.bytes in
    let shorter = one_less l.left l.invariant.0 c.if-left-eq0.false in (
      omega arith,
      omega arith,
      omega arith,
      omega arith,
      ap (λ (ys : List ℕ). decimal (l.left / 10) ++ ys) (one_before xs l.at (48 + l.left % 10) (omega arith) (omega arith)) ∙ sym (next_digit l.left l.invariant.0 c.if-left-eq0.false (drop l.at xs)) ∙ l.invariant.4,
    )

pub put-requires : goal.put-requires
put-requires c = let short = one c.loop-left.left c.if-left-eq0.true in omega arith

pub returns : goal.returns
returns c =
    let l = c.loop-left in
    let xs = l.self.bytes in
    let short = one l.left c.if-left-eq0.true in
    record {
      start = omega arith;
      line = c.put.ensures.line ∙ ap (λ (ys : List ℕ). 32 ∷ ys) (one_before xs l.at (48 + l.left % 10) (omega arith) (omega arith) ∙ sym (last_digit l.left c.if-left-eq0.true (drop l.at xs)) ∙ l.invariant.4);
    }
