-- The reply is by the episodes where the content is this kind's. Assumes nothing.
use Rattle.std.proofs.Common.{sym, ap, ◌∙◌}
use Rattle.mitl.specs.Memory.{ahead}
use Rattle.clock_pairs.proofs.Oldest.{next}
use Rattle.clock_pairs.proofs.ClockPairs.reply.Goals as goal

pub returns-in-Some-clause-next : goal.returns-in-Some-clause-next
returns-in-Some-clause-next c = next _ _ _ c.forecast.ensures ∙ ap (λ o. ahead o.a c.args.operand o.mark 0) (sym c.in-Some.ensures.means)
