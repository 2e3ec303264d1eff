-- A word of marks that are moved, and set. Assumes nothing.
use Rattle.std.proofs.Common.{◌≡◌, ◌+◌, ◌*◌, ◌||◌, ap, ◌∙◌, ap₂, arith}
use Rattle.bit_marks.specs.Marks.{marked}
use Rattle.bit_marks.specs.Bits.{or_bit}
use Rattle.bit_marks.proofs.words.Marks.advanced_word.Goals as goal

pub returns : goal.returns
returns c k h =
    let e : 64 * c.args.at + c.args.n + k ≡ 64 * c.args.at + k + c.args.n = omega arith in
    or_bit k c.moved.result c.between.result ∙ ap₂ ◌||◌ (c.moved.ensures k h ∙ ap (marked c.args.self.now.words) e) (c.between.ensures k h)
