-- The bits of two neighbouring words. Assumes nothing.
use Rattle.std.proofs.Common.{arith}
use Rattle.bit_marks.specs.Bits.{joined_bit}
use Rattle.bit_marks.proofs.words.joined.Goals as goal

pub returns-else-by-eq0 : goal.returns-else-by-eq0
returns-else-by-eq0 c k h = joined_bit k c.args.low c.args.high c.args.by c.ranges.low.fits h (omega arith) c.requires
