use Rattle.std.proofs.Common.{ap, sym}
use Rattle.mitl.specs.Rows.{row_at}
use Rattle.plan.specs.Rows.{rows_of}
use Rattle.engine.proofs.Plans.{timed_step}
use Rattle.engine.proofs.Taking.{advanced_more}
use Rattle.engine.proofs.advance.advance.Goals as goal

pub loop-row-preserved : goal.loop-row-preserved
loop-row-preserved g c =
    let rows = rows_of c.args.plan.now in
    let k = c.loop-row.row-index in
    let inv = c.loop-row.invariant in
    let same = ap (λ rs. row_at rs k) (sym c.chain-row-items.ensures) in
    record {
      place = timed_step rows k _ c.loop-row.at c.advance_row-at.result same inv.place c.advance_row-at.ensures.behind;
      taken = advanced_more _ rows _ c.args.n k _ _ _ _ c.loop-row.at inv.taken same inv.place c.advance_row-at.ensures.told c.advance_row-at.ensures.still;
    }
