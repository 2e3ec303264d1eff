use Rattle.std.proofs.Common.{◌≡◌}
use Rattle.mitl.specs.Rows.{timed_before}
use Rattle.plan.specs.Rows.{rows_of}
use Rattle.engine.specs.Steps.{Advanced, reading}
use Rattle.engine.proofs.advance.advance.Given as goal

abbrev pub invariant-loop-row : goal.invariant-loop-row
invariant-loop-row g l = record {
  place : l.at ≡ timed_before (rows_of l.plan) l.row-index;
  taken : Advanced g.M.WindowMemory.meaning (rows_of l.plan) (reading l.vs) l.n l.row-index l.initial.part l.part;
}
