-- What is left to show for the walk along the chain. Assumes nothing.
use Rattle.std.proofs.Common.{rules}
use Rattle.std.proofs.lemmas.Result.{err_from_is_err_and}
use Rattle.table.specs.Refusals.{of_row}
use Rattle.table.proofs.Chains.{headed}
use Rattle.table.proofs.Walking.{room, ready, failed, more, walked}
use Rattle.table.proofs.walk.Goals as goal

pub take-requires : goal.take-requires
take-requires g c =
    let l = c.loop-next in
    ready g.A.Admission.admitted c.args.bytes.now (headed _ c.requires.0) l.draft l.next l.invariant c.in-Some.at c.in-Some.is

pub returns-in_err-step : goal.returns-in_err-step
returns-in_err-step g c =
    let l = c.loop-next in
    let t = c.args.bytes.now in
    let p = err_from_is_err_and c.from_residual.result c.from_residual.ensures.1 in
    rw (p.1, p.2)
    (failed g.A.Admission.admitted t (headed t c.requires.0) l.draft l.next l.invariant c.in-Some.at c.in-Some.is c.args.head.told c.requires.1
    (of_row c.in_err-step.field-0.0) c.in_err-step.ensures)

pub push-requires : goal.push-requires
push-requires g c = search (rules, room, headed)

pub loop-next-preserved : goal.loop-next-preserved
loop-next-preserved g c =
    let l = c.loop-next in
    let t = c.args.bytes.now in
    more g.A.Admission.admitted t (headed t c.requires.0) l.draft l.next l.invariant c.in-Some.at c.in-Some.is c.args.head.told c.requires.1 c.in_ok-step.step
    c.in_ok-step.ensures c.push.new.self c.push.ensures.count c.push.ensures.rows c.push.ensures.numbers

pub returns : goal.returns
returns g c = search (rules, walked, headed)
