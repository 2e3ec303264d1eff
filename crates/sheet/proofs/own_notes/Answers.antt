use Rattle.std.proofs.Common.{◌≡◌, filter, sym, subst}
use Rattle.std.proofs.lemmas.Result.{IfOk-weaker}
use Rattle.share.specs.Ticks.{of_car}
use Rattle.sheet.specs.Rows.{SameShares}
use Rattle.sheet.proofs.Kept.{same_shares}
use Rattle.sheet.proofs.own_notes.Goals as goal

pub returns-clause-shares : goal.returns-clause-shares
returns-clause-shares c =
    let ns = c.args.notes.now in
    let car = c.args.car in
    IfOk-weaker c.notes_by.result (λ v. v.items ≡ filter (of_car car) ns) _ (λ v e. subst (λ ms. SameShares ms ns car) (sym e) (same_shares ns car)) c.notes_by.ensures
