-- The ones of a word below a mark. Assumes nothing.
use Rattle.std.proofs.Common.{ℕ, ◌-◌, ap, ◌∙◌, arith}
use Rattle.std.proofs.lemmas.Nat.{one_shl}
use Rattle.std.proofs.lemmas.Bool.Decides.{nat_tests}
use Rattle.mitl.specs.Formulas.{bit}
use Rattle.bit_marks.specs.Bits.{ones_bit}
use Rattle.bit_marks.proofs.words.below.Goals as goal

pub returns-then-count-lt64 : goal.returns-then-count-lt64
returns-then-count-lt64 c k h =
    let count : ℕ = c.saturating_sub-count.result in
    ap (λ x. bit k (x - 1)) (one_shl count 64 c.if-count-lt64.true) ∙ ones_bit k count ∙ grind (arith, nat_tests)

pub returns-else-count-lt64 : goal.returns-else-count-lt64
returns-else-count-lt64 c k h = ones_bit k 64 ∙ grind (arith, nat_tests)
