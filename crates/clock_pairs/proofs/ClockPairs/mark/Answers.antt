-- The mark is by the episodes where the content is this kind's. Assumes nothing.
use Rattle.std.proofs.Common.{sym, ap, ◌∙◌}
use Rattle.clock_pairs.proofs.ClockPairs.mark.Goals as goal

pub returns-in-Some : goal.returns-in-Some
returns-in-Some c = c.marks.ensures ∙ ap (λ o. o.mark c.args.d) (sym c.in-Some.ensures.means)
