-- The stretches that end in a word are the ones of its ends. Assumes nothing.
use Rattle.std.proofs.Common.{◌*◌, arith}
use Rattle.bit_marks.specs.Marks.{marked}
use Rattle.bit_marks.proofs.Stretches.{more_stretches}
use Rattle.bit_marks.proofs.words.Marks.stretches_in.Goals as goal

pub returns-clause-value : goal.returns-clause-value
returns-clause-value c =
    omega (arith, more_stretches (marked c.args.self.now.words) (64 * c.args.at) 64 c.ends.result c.ends.type_inv c.ends.ensures)
