use Rattle.std.proofs.Common.{◌≡◌, ℕ, ◌-◌, ◌<◌, ◌≤◌, List, length, get_or, drop}
use Rattle.mitl.specs.Rows.{timed_rows}
use Rattle.plan.specs.Rows.{rows_of}
use Rattle.engine.specs.Means.{Means}
use Rattle.engine.specs.Steps.{Foresees}
use Rattle.engine.proofs.Noting.{Noted}
use Rattle.engine.proofs.feeding.fill.Given as goal

abbrev pub invariant-loop-step : goal.invariant-loop-step
invariant-loop-step g l = record {
  low : l.left ≤ l.inputs.ticks;
  places : l.used ≤ length l.initial.notes;
  some : 0 < l.used → l.left < l.inputs.ticks;
  rest : drop l.used l.notes ≡ drop l.used l.initial.notes;
  past : (i : ℕ) (m : g.row.M.Denot) → timed_rows (rows_of l.plan) ≤ i → get_or l.part i m ≡ get_or l.initial.part i m;
  noted : (h : List ℕ) → Means g.M.WindowMemory.meaning (rows_of l.plan) l.initial.part h
      → Noted g.M.WindowMemory.meaning (rows_of l.plan) h l.inputs.car l.inputs.word l.inputs.ticks (l.inputs.ticks - l.left) l.part l.notes l.used;
  foreseen : 0 < l.left → Foresees g.M.WindowMemory.meaning (rows_of l.plan) l.inputs.word l.part l.step;
}

abbrev pub decreases-loop-step : goal.decreases-loop-step
decreases-loop-step g l = l.left
