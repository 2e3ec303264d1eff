-- The line is all bytes from its start on. Assumes nothing.
use Rattle.std.proofs.Common.{arith}
use Rattle.std.proofs.lemmas.Slice.{between_to_end}
use Rattle.line.proofs.text.Layout.bytes.Goals as goal

pub returns : goal.returns
returns c = let s = c.args.self.now in between_to_end s.bytes s.start 65 (omega arith)
