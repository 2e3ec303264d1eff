use Rattle.plan.specs.Rows.{rows_of}
use Rattle.memories.specs.Parts.{Prepared}
use Rattle.memories.specs.Exact.{AllReadied}
use Rattle.memories.proofs.prepare_first.Given as goal

abbrev pub invariant-loop-i : goal.invariant-loop-i
invariant-loop-i g l = record {
  prepared : Prepared g.M.WindowMemory.meaning g.M.Admission.admitted (rows_of l.plan) l.i l.initial.memories l.memories;
  exactly : AllReadied g.M.WindowMemory.meaning g.M.Admission.admitted (rows_of l.plan) l.i l.initial.memories l.memories;
}
