use Rattle.std.proofs.Common.{◌<◌, arith}
use Rattle.plan.specs.Rows.{rows_of}
use Rattle.engine.proofs.Lengths.{capped_positive, capped_before}
use Rattle.engine.proofs.Plans.{plan_chained, plan_proper}
use Rattle.engine.proofs.Holding.{held_step}
use Rattle.engine.proofs.running.hold.Goals as goal

pub returns-clause-held : goal.returns-clause-held
returns-clause-held g c =
    let p = c.args.plan.now in
    let s = c.args.step.now in
    let n = c.capped_at-n.result in
    let pos : 0 < n = omega (arith, c.capped_at-n.ensures, capped_positive s.lasts c.args.most c.requires.foreseen.some c.requires.left) in
    held_step _ (rows_of p) (plan_chained p) (plan_proper p) c.args.word
    c.args.part.now c.advance.new.part s n c.requires.foreseen pos
    (λ d lt. capped_before s.lasts c.args.most d (omega (arith, c.capped_at-n.ensures))) c.advance.auto.part c.advance.ensures
