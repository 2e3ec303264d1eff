-- The ones of a word between two marks. Assumes nothing.
use Rattle.std.proofs.Common.{◌-◌, not, ◌&&◌, ap, ◌∙◌, ap₂, arith}
use Rattle.std.proofs.lemmas.Bool.Decides.{nat_tests}
use Rattle.bit_marks.specs.Bits.{and_bit, not_bit}
use Rattle.bit_marks.proofs.words.between.Goals as goal

pub returns : goal.returns
returns c k h =
    and_bit k c.below.result (18446744073709551615 - c.below-2.result)
    ∙ ap₂ ◌&&◌ (c.below.ensures k h) (not_bit k 64 c.below-2.result h c.below-2.type_inv ∙ ap not (c.below-2.ensures k h)) ∙ grind (arith, nat_tests)
