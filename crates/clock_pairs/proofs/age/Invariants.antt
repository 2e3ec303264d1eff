-- The places before i are done. Assumes nothing.
use Rattle.clock_pairs.proofs.Ageing.{Aged}
use Rattle.clock_pairs.proofs.age.Given as goal

abbrev pub invariant-loop-i : goal.invariant-loop-i
invariant-loop-i l = Aged l.b l.n l.from l.len l.used l.i l.initial.places l.places
