-- A byte put before the line stands before it. Assumes nothing.
use Rattle.std.proofs.Common.{arith}
use Rattle.line.proofs.Figures.{one_before}
use Rattle.line.proofs.text.Layout.put.Goals as goal

pub returns : goal.returns
returns c = let s = c.args.self.now in record { start = omega arith; line = one_before s.bytes s.start c.args.byte (omega arith) (omega arith) }
