-- What is left to show for the invariant of a plan that is built. Assumes nothing.
use Rattle.std.proofs.Common.{◌&&◌, leb, sym}
use Rattle.std.proofs.lemmas.Bool.{and_parts}
use Rattle.mitl.specs.Rows.{row_at}
use Rattle.mitl.specs.Windows.{all_below, some_below}
use Rattle.plan.specs.Sound.{row_ok, is_a_rule}
use Rattle.plan.proofs.Below.{all_at}
use Rattle.plan.proofs.build.Goals as goal

pub invariant_of-result-clause-each : goal.invariant_of-result-clause-each
invariant_of-result-clause-each c =
    let rows = c.args.rows in
    let count = c.args.count in
    let few_and = and_parts (leb count 64) (all_below (λ k. row_ok rows k (row_at rows k)) count && some_below (λ k. is_a_rule (row_at rows k)) count) (sym c.if-is_sound.ensures) in
    all_at (λ k. row_ok rows k (row_at rows k)) count (and_parts _ _ few_and.1).0
