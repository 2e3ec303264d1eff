use Rattle.std.proofs.Common.{arith}
use Rattle.plan.specs.Rows.{rows_of}
use Rattle.engine.proofs.Clearing.{cleared_means}
use Rattle.engine.proofs.clear.Goals as goal

pub returns-clause-means : goal.returns-clause-means
returns-clause-means g c =
    cleared_means g.M.WindowMemory.meaning (rows_of c.args.plan.now) c.min-end.result c.args.part.now c.clear_first.new.part (omega (arith, c.min-end.ensures, c.timed.ensures)) c.clear_first.auto.part
    c.clear_first.ensures
