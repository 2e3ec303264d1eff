-- The invariant for the walk along the chain. Assumes nothing.
use Rattle.std.proofs.Common.{◌-◌}
use Rattle.table.proofs.Walking.{Walking}
use Rattle.table.proofs.walk.Given as goal

abbrev pub invariant-loop-next : goal.invariant-loop-next
invariant-loop-next g l = Walking g.A.Admission.admitted l.bytes l.draft l.next

abbrev pub decreases-loop-next : goal.decreases-loop-next
decreases-loop-next g l = 64 - l.draft.count
