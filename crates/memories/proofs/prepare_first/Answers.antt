use Rattle.engine.proofs.Plans.{plan_chained}
use Rattle.memories.proofs.Lent.{prepared_more}
use Rattle.memories.proofs.Exact.{all_more}
use Rattle.memories.proofs.prepare_first.Goals as goal

pub loop-i-preserved : goal.loop-i-preserved
loop-i-preserved g c =
    let before = c.loop-i.invariant in
    let car = c.prepare_car.ensures in
    record {
      prepared = prepared_more _ _ _ _ (plan_chained c.args.plan.now) c.loop-i.i _ _ before.prepared car;
      exactly = all_more _ _ _ _ c.loop-i.i _ _ before.prepared before.exactly car;
    }
