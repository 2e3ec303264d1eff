use Rattle.std.proofs.Common.{◌≡◌}
use Rattle.mitl.specs.Rows.{timed_before}
use Rattle.plan.specs.Rows.{rows_of}
use Rattle.memories.specs.Parts.{Readied}
use Rattle.memories.proofs.prepare_part.Given as goal

abbrev pub invariant-loop-row : goal.invariant-loop-row
invariant-loop-row g l = record {
  place : l.at ≡ timed_before (rows_of l.plan) l.row-index;
  ready : Readied g.M.WindowMemory.meaning g.M.Admission.admitted (rows_of l.plan) l.row-index l.initial.part l.part;
}
