use Rattle.std.proofs.Common.{◌≡◌, ◌-◌, ◌<◌, ◌≤◌, length}
use Rattle.mitl.specs.Rows.{timed_rows}
use Rattle.plan.specs.Rows.{rows_of}
use Rattle.engine.specs.Steps.{Foresees}
use Rattle.engine.specs.Held.{Held}
use Rattle.engine.proofs.running.run.Given as goal

abbrev pub invariant-loop-n : goal.invariant-loop-n
invariant-loop-n g l = record {
  enough : timed_rows (rows_of l.plan) ≤ length l.part;
  left : l.n < l.most;
  same : l.step.word ≡ l.verdict;
  foreseen : Foresees g.M.WindowMemory.meaning (rows_of l.plan) l.word l.part l.step;
  held : Held g.M.WindowMemory.meaning (rows_of l.plan) l.word l.initial.part l.part l.verdict l.n;
}

abbrev pub decreases-loop-n : goal.decreases-loop-n
decreases-loop-n g l = l.most - l.n
