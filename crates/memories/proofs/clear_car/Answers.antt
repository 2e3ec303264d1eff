use Rattle.mitl.specs.Rows.{timed_rows}
use Rattle.plan.specs.Rows.{rows_of}
use Rattle.memories.proofs.Lent.{lent_back}
use Rattle.memories.proofs.Exact.{cleared_back, emptied_back}
use Rattle.memories.proofs.clear_car.Goals as goal

pub returns-in-Some : goal.returns-in-Some
returns-in-Some g c =
    let rows = rows_of c.args.plan.now in
    let ms = c.args.memories.now in
    let ys = c.clear.new.part in
    let back = lent_back (timed_rows rows) c.args.at c.in-Some.from c.in-Some.to ms ys c.in-Some.ensures c.clear.auto.part in
    record { cleared = cleared_back _ rows c.args.at _ _ ms ys back c.clear.ensures.means; exactly = emptied_back _ rows c.args.at _ _ ms ys back c.clear.ensures.memories }
