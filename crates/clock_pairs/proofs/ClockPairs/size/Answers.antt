-- The stretches are the episodes where the content is this kind's. Assumes nothing.
use Rattle.std.proofs.Common.{sym, ap, ◌∙◌}
use Rattle.mitl.specs.Memory.{counted}
use Rattle.clock_pairs.proofs.ClockPairs.size.Goals as goal

pub returns-in-Some-clause-counts : goal.returns-in-Some-clause-counts
returns-in-Some-clause-counts c = c.count.ensures.counts ∙ ap counted (sym c.in-Some.ensures.means)
