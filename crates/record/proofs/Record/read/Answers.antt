use mir.Facts.{Fits-lt-pow}
use Rattle.std.proofs.Common.{w8}
use Rattle.record.proofs.Replies.{read_from}
use Rattle.record.proofs.Record.read.Goals as goal

pub returns : goal.returns
returns c = read_from c.args.bytes.now _ _ (λ i. Fits-lt-pow {w = w8} (c.type_inv.bytes i)) c.in-Some.ensures c.checked.result c.checked.ensures
