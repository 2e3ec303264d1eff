use Rattle.std.proofs.Common.{arith}
use Rattle.plan.specs.Rows.{rows_of}
use Rattle.engine.proofs.Plans.{plan_chained, plan_proper}
use Rattle.engine.proofs.Holding.{held_more, same_word, whole_all, whole_ended}
use Rattle.engine.proofs.running.run.Goals as goal

pub loop-n-preserved : goal.loop-n-preserved
loop-n-preserved g c =
    let inv = c.loop-n.invariant in
    record {
      enough = omega (arith, inv.enough, c.hold-n.auto.part);
      left = omega arith;
      same = same_word c.next-step.result.word c.args.first.word c.if-not-goes_on.ensures;
      foreseen = c.next-step.ensures;
      held = held_more _ (rows_of c.args.plan.now) c.args.word c.args.first.word c.args.part.now c.loop-n.part c.hold-n.new.part c.loop-n.n c.hold-n.result c.loop-n.step.word
          inv.held inv.same c.hold-n.ensures.held;
    }

pub returns-then-n-most-clause-whole : goal.returns-then-n-most-clause-whole
returns-then-n-most-clause-whole g c =
    let inv = c.loop-n.invariant in
    let some = c.hold-n.ensures.some in
    whole_all _ (rows_of c.args.plan.now) c.args.word c.args.most c.args.part.now c.loop-n.part c.hold-n.new.part c.args.first.word c.loop-n.n c.loop-n.step.word c.hold-n.result
    inv.held inv.same c.hold-n.ensures.held some.0 (omega (arith, some.1, inv.left)) (omega arith)

pub returns-then-not-goes_on-clause-whole : goal.returns-then-not-goes_on-clause-whole
returns-then-not-goes_on-clause-whole g c =
    let p = c.args.plan.now in
    let inv = c.loop-n.invariant in
    let some = c.hold-n.ensures.some in
    whole_ended _ (rows_of p) c.args.word c.args.most c.args.part.now c.loop-n.part c.hold-n.new.part c.args.first.word c.loop-n.n c.loop-n.step.word c.hold-n.result
    inv.held inv.same c.hold-n.ensures.held some.0 (omega (arith, some.1, inv.left))
    (plan_chained p) (plan_proper p) c.next-step.result c.next-step.ensures c.if-not-goes_on.ensures
