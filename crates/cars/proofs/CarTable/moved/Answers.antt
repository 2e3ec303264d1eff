use Rattle.std.proofs.Common.{◌≡◌, Some, arith}
use Rattle.std.proofs.lemmas.Grind.{common_steps}
use Rattle.std.proofs.lemmas.Result.{err_from_is_err_and}
use Rattle.cars.specs.Cars.{cars_of, place_of}
use Rattle.cars.proofs.Places.{place_in, length_cars}
use Rattle.cars.proofs.Moves.{refused_at}
use Rattle.cars.proofs.CarTable.moved.Goals as goal

pub record_at-requires : goal.record_at-requires
record_at-requires c = grind (arith, common_steps, place_in, length_cars)

pub returns-in_err-record_at : goal.returns-in_err-record_at
returns-in_err-record_at c =
    let p = err_from_is_err_and c.from_residual-in_err-record_at.result c.from_residual-in_err-record_at.ensures.1 in
    let found : place_of (cars_of c.args.self.now) c.args.car ≡ Some c.in_ok-at.at = grind (arith, common_steps) in
    rw (p.1, p.2) (refused_at c.args.self.now c.args.car c.args.letter c.in_ok-at.at c.record_at.new.self c.in_err-record_at.field-0.0 found c.in_err-record_at.ensures)
