-- The rest of the record has fewer ticks with each part. Assumes nothing.
use Rattle.line.proofs.Rests.{ticks_left}
use Rattle.line.proofs.feed.Line.serve_record.Given as goal

abbrev pub decreases-loop-left : goal.decreases-loop-left
decreases-loop-left g l = ticks_left l.left
