use Rattle.std.proofs.Common.{◌≡◌, length}
use Rattle.mitl.specs.Rows.{timed_before}
use Rattle.plan.specs.Rows.{rows_of}
use Rattle.engine.specs.Steps.{Foreseen}
use Rattle.engine.proofs.reading.next.Given as goal

abbrev pub invariant-loop-k : goal.invariant-loop-k
invariant-loop-k g l = record {
  place : l.at ≡ timed_before (rows_of l.plan) l.k;
  many : length l.readings ≡ 64;
  seen : Foreseen g.M.WindowMemory.meaning (rows_of l.plan) l.word l.part l.k l.readings l.verdict l.lasts;
}
