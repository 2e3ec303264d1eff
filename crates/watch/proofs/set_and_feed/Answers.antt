use Rattle.std.proofs.Common.{refl}
use Rattle.watch.specs.Keeping.{held_by}
use Rattle.watch.proofs.set_and_feed.Goals as goal

pub returns-clause-run : goal.returns-clause-run
returns-clause-run g c = λ room. (held_by c.set-set.new.self, c.set-set.ensures.step room, (held_by c.feed-fed.new.self, c.feed-fed.ensures.step room, refl))
