-- What is tested from here on decides the whole test. Assumes nothing.
use Rattle.std.proofs.Common.{◌≡◌, drop}
use Rattle.clock_pairs.specs.Episodes.{apart}
use Rattle.clock_pairs.proofs.Window.orders.Given as goal

abbrev pub invariant-loop-e : goal.invariant-loop-e
invariant-loop-e l = apart l.self.a l.self.b l.low (drop l.e-index l.episodes) ≡ apart l.self.a l.self.b 0 l.episodes
