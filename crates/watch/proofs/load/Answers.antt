use Rattle.std.proofs.Common.{◌≡◌, ap, arith, w64}
use mir.Facts.{Fits-of_lt}
use Rattle.std.proofs.lemmas.Grind.{common_steps}
use Rattle.std.proofs.lemmas.Result.{err_from_is_err_and}
use Rattle.mitl.specs.Rows.{timed_rows}
use Rattle.plan.specs.declared.Counts.{Counts}
use Rattle.plan.specs.Rows.{rows_of}
use Rattle.table.specs.Refusals.{of_table}
use Rattle.cars.specs.Refusals.{of_list}
use Rattle.watch.proofs.Setting.{table_first, list_first, room_first, none_first, few_memories}
use Rattle.watch.proofs.load.Goals as goal

pub returns-in_err-plan : goal.returns-in_err-plan
returns-in_err-plan g c =
    let p = err_from_is_err_and c.from_residual.result c.from_residual.ensures.1 in
    rw (p.1, p.2) (table_first g.A.Admission.admitted c.args.room c.args.table.now c.args.cars.now (of_table c.in_err-plan.field-0.0) c.in_err-plan.ensures)

pub returns-in_err-list : goal.returns-in_err-list
returns-in_err-list g c =
    let p = err_from_is_err_and c.from_residual-in_err-list.result c.from_residual-in_err-list.ensures.1 in
    rw (p.1, p.2) (list_first g.A.Admission.admitted c.args.room c.args.table.now c.args.cars.now c.in_ok-plan.ensures.0 (of_list c.in_err-list.field-0.0) c.in_err-list.ensures)

pub overflow_mul-cars : goal.overflow_mul-cars
overflow_mul-cars g c =
    let timed : c.counts.result.timed ≡ timed_rows (rows_of c.in_ok-plan.plan) = ap (λ (n : Counts). n.timed) c.counts.ensures in
    Fits-of_lt {w = w64} (rw timed (omega (arith, few_memories c.args.cars.now c.in_ok-plan.plan c.in_ok-list.ensures.0)))

pub returns-then-room-cars : goal.returns-then-room-cars
returns-then-room-cars g c = grind (arith, common_steps, room_first)

pub returns : goal.returns
returns g c = grind (arith, common_steps, none_first)
