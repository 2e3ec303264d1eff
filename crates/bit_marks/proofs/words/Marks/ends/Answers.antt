-- The marks of a word that end a stretch. Assumes nothing.
use Rattle.std.proofs.Common.{◌+◌, ◌-◌, ◌*◌, not, ◌&&◌, sym, refl, ap, ◌∙◌, ap₂}
use Rattle.mitl.specs.Formulas.{bit}
use Rattle.bit_marks.specs.Bits.{and_bit, not_bit}
use Rattle.bit_marks.specs.Places.{at_place}
use Rattle.bit_marks.proofs.words.Marks.ends.Goals as goal

pub returns : goal.returns
returns c k h =
    and_bit k c.word_at.result (18446744073709551615 - c.moved.result)
    ∙ ap₂ ◌&&◌ (ap (bit k) c.word_at.ensures ∙ sym (at_place c.args.self.now.words (64 * c.args.at + k) c.args.at k h refl))
    (not_bit k 64 c.moved.result h c.moved.type_inv ∙ ap not (c.moved.ensures k h))
