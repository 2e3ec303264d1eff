-- A window with all marks no. Assumes nothing.
use Rattle.std.proofs.Common.{◌≡◌, ℕ, ◌/◌, ◌%◌, false, replicate, refl, ap, ◌∙◌}
use Rattle.mitl.specs.Formulas.{bit}
use Rattle.bit_marks.specs.Marks.{marked}
use Rattle.bit_marks.specs.Bits.{zero_bit}
use Rattle.bit_marks.specs.Places.{zeros}
use Rattle.bit_marks.specs.Means.{marks_sound, marks_mean}
use Rattle.bit_marks.proofs.content.Settled.empty.Goals as goal

none : (d : ℕ) → marked (replicate 16 0) d ≡ false
none d = ap (bit (d % 64)) (zeros 16 (d / 64)) ∙ zero_bit (d % 64)

pub invariant_of-result : goal.invariant_of-result
invariant_of-result c = record { made = marks_sound c.args.a c.args.b (replicate 16 0) (λ _. false) c.requires none (λ _ _. refl) }

pub returns : goal.returns
returns c = marks_mean c.args.a c.args.b (replicate 16 0) (λ _. false) c.requires none (λ _ _. refl)
