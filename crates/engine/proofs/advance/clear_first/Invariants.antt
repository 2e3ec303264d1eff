use Rattle.mitl.specs.Memory.{cleared}
use Rattle.engine.specs.Means.{Changed}
use Rattle.engine.proofs.advance.clear_first.Given as goal

abbrev pub invariant-loop-memory : goal.invariant-loop-memory
invariant-loop-memory g l = Changed g.M.WindowMemory.meaning cleared l.memory-index l.initial.memory-items l.memory-items
