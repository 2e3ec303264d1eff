use Rattle.std.proofs.Common.{◌∙◌, ap, sym, arith}
use Rattle.std.proofs.lemmas.List.{length-set}
use Rattle.mitl.specs.Rows.{row_at}
use Rattle.plan.specs.Rows.{rows_of}
use Rattle.engine.proofs.Plans.{given_low, given_earlier, timed_step}
use Rattle.engine.proofs.Foresight.{foreseen_more}
use Rattle.engine.proofs.reading.next.Goals as goal

pub loop-k-preserved : goal.loop-k-preserved
loop-k-preserved g c =
    let p = c.args.plan.now in
    let k = c.loop-k.k in
    let inv = c.loop-k.invariant in
    let is = c.chain-row-items.ensures in
    let same = ap (λ rs. row_at rs k) (sym is) in
    record {
      place = timed_step (rows_of p) k _ c.loop-k.at c.settle-yes.result.2 same inv.place c.settle-yes.ensures.behind;
      many = length-set c.loop-k.readings k c.settle-yes.result.0 ∙ inv.many;
      seen = foreseen_more _ (rows_of p) c.args.word _ k c.loop-k.readings c.loop-k.verdict c.loop-k.lasts c.settle-yes.result.0 c.settle-yes.result.1 _ _
          (given_earlier p _ is k c.loop-k-test.true) (omega (arith, inv.many, given_low p _ is k c.loop-k-test.true, p.few)) inv.seen
          _ c.loop-k.at same inv.place c.settle-yes.ensures.lasts c.with_row-verdict.ensures c.shorter_of-lasts.ensures (omega arith);
    }
