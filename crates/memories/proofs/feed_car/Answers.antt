use Rattle.mitl.specs.Rows.{timed_rows}
use Rattle.plan.specs.Rows.{rows_of}
use Rattle.memories.specs.Exact.{PartFed}
use Rattle.memories.proofs.Lent.{lent_back}
use Rattle.memories.proofs.Exact.{fed_back, told_back}
use Rattle.memories.proofs.feed_car.Goals as goal

pub returns-in-Some : goal.returns-in-Some
returns-in-Some g c =
    let rows = rows_of c.args.plan.now in
    let ms = c.args.memories.now in
    let ys = c.feed.new.part in
    let back = lent_back (timed_rows rows) c.args.at c.in-Some.from c.in-Some.to ms ys c.in-Some.ensures c.feed.auto.part in
    let i = c.args.inputs in
    let told : PartFed g.M.WindowMemory.meaning rows i.car i.word i.ticks _ c.args.notes.now ys c.feed.new.notes c.feed.result =
    record { unfed = c.feed.ensures.unfed; bounded = c.feed.ensures.bounded; judged = c.feed.ensures.judged } in
    record {
      fed = fed_back _ rows c.args.at _ _ ms ys back i.car i.word i.ticks _ _ _ told;
      exactly = told_back _ rows c.args.at _ _ ms ys back i.car i.word i.ticks _ _ _ told;
    }
