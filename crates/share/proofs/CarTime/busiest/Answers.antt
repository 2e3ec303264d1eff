use Rattle.std.proofs.Common.{arith, rules, refl, subst, sym}
use borrow.Author.Tests.{tests}
use Rattle.std.proofs.lemmas.Iterator.{YieldsList-from_range}
use Rattle.std.proofs.lemmas.Iterator.Consumers.{fold_from_yields_List}
use Rattle.share.specs.Replies.{Busiest}
use Rattle.share.proofs.Bests.{busiest_one, busier, busier_is, busiest_all}
use Rattle.share.proofs.CarTime.busiest.Goals as goal

pub returns : goal.returns
returns c =
    let ns = c.args.self.now.notes.now in
    let car = c.args.self.now.car in
    let e = fold_from_yields_List _ (busier ns car) c.figure_of.result c.fold.result c.fold.ensures.ran (YieldsList-from_range 1 16 15 refl (omega arith)) (λ a x b q k. search (rules, tests, busier_is)) in
    subst (Busiest ns car 16) (sym e) (busiest_all ns car 1 15 c.figure_of.result (busiest_one ns car c.figure_of.result c.figure_of.ensures))
