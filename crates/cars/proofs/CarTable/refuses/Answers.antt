use Rattle.std.proofs.Common.{◌||◌, is_some, ap, ◌∙◌}
use Rattle.cars.specs.Cars.{cars_of, listed}
use Rattle.cars.proofs.Places.{place_listed}
use Rattle.cars.proofs.CarTable.refuses.Goals as goal

pub returns-else-eq : goal.returns-else-eq
returns-else-eq c =
    let cs = cars_of c.args.self.now in
    let car = c.args.car in
    c.is_some.ensures ∙ ap is_some c.find.ensures ∙ place_listed cs car ∙ ap (λ b. b || listed cs car) c.if-eq.ensures
