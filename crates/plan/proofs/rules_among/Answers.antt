-- What is left to show for the rule rows that are counted: the count fits. Assumes nothing.
use Rattle.std.proofs.Common.{◌^◌, ◌≤◌, length, arith, rules}
use Rattle.std.proofs.lemmas.Iterator.{YieldsList-from_slice}
use Rattle.std.proofs.lemmas.Iterator.Adapters.{fits_from_length, at_most_from_yields_List}
use Rattle.plan.proofs.rules_among.Goals as goal

pub sum-requires-clause-fits : goal.sum-requires-clause-fits
sum-requires-clause-fits c =
    let few : length c.args.rows.now ≤ 2 ^ 63 = omega arith in
    fits_from_length _ _ (2 ^ 63) (2 ^ 64) (at_most_from_yields_List (YieldsList-from_slice c.args.rows.now cc) few) c.map.ensures.closure (omega arith) (λ x r q k. search rules)
