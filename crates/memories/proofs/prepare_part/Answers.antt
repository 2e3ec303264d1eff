use Rattle.std.proofs.Common.{ap, sym}
use Rattle.mitl.specs.Rows.{row_at}
use Rattle.plan.specs.Rows.{rows_of}
use Rattle.engine.proofs.Plans.{timed_step}
use Rattle.memories.proofs.Readied.{readied_row}
use Rattle.memories.proofs.prepare_part.Goals as goal

pub loop-row-preserved : goal.loop-row-preserved
loop-row-preserved g c =
    let rows = rows_of c.args.plan.now in
    let k = c.loop-row.row-index in
    let inv = c.loop-row.invariant in
    let same = ap (λ rs. row_at rs k) (sym c.chain-row-items.ensures) in
    record {
      place = timed_step rows k _ c.loop-row.at c.prepare_row-at.result same inv.place c.prepare_row-at.ensures.behind;
      ready = readied_row _ _ rows _ k c.loop-row.at _ _ _ same inv.place c.prepare_row-at.ensures.timed c.prepare_row-at.ensures.other inv.ready;
    }
