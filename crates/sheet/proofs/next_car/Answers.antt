use Rattle.std.proofs.Common.{sym, subst, rules, ltb}
use borrow.Author.Tests.{tests}
use Rattle.std.proofs.lemmas.Iterator.{YieldsList-from_slice, YieldsList-from_map}
use Rattle.std.proofs.lemmas.Iterator.Consumers.{YieldsList-from_filter, YieldsList-at}
use Rattle.sheet.specs.Rows.{Next}
use Rattle.sheet.proofs.Lowest.{lower_of, picked, lower_reduced, next_is}
use Rattle.sheet.proofs.next_car.Goals as goal

pub returns : goal.returns
returns c =
    let least = lower_reduced _ (λ f p z a f' k. k.met) _ c.filter.result _ c.reduce.result c.reduce.ensures.ran (YieldsList-from_filter _ (λ d. ltb c.args.above d.number) (YieldsList-at c.filter.ensures.source (YieldsList-from_map _ (λ n. n.car) (YieldsList-at c.map.ensures.source (YieldsList-from_slice c.args.notes.now (cc))) c.map.ensures.closure (λ x r q k. search (rules, tests)))) c.filter.ensures.closure (λ x b q k. search (rules, tests))) in
    subst (Next c.args.notes.now c.args.above) (sym least) (next_is c.args.above lower_of picked c.args.notes.now)
