-- What is left to show for the timed rows before a place. Assumes nothing.
use Rattle.std.proofs.Common.{◌≤◌, length, ap₂, ◌∙◌, rules}
use Rattle.mitl.specs.Rows.{timed_before}
use Rattle.plan.proofs.Timed.{timed_first}
use Rattle.plan.proofs.plan.Plan.timed_before.Goals as goal

pub returns : goal.returns
returns c =
    let chain = c.chain.result.now in
    let within : c.min.result ≤ length chain = search rules in
    c.timed_among.ensures ∙ timed_first chain c.min.result within ∙ ap₂ timed_before c.chain.ensures c.min.ensures
