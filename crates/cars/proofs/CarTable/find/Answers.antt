use Rattle.std.proofs.Common.{◌∙◌, rules, arith, tests}
use Rattle.std.proofs.lemmas.Iterator.Search.{position_from_yields_List}
use Rattle.std.proofs.lemmas.Iterator.{YieldsList-from_slice}
use Rattle.record.specs.Cars.{same_car}
use Rattle.cars.specs.declared.Slot.{Slot}
use Rattle.cars.proofs.Places.{used, place_used}
use Rattle.cars.proofs.CarTable.find.Goals as goal

pub returns : goal.returns
returns c =
    let t = c.args.self.now in
    position_from_yields_List (λ (s : Slot). same_car s.car c.args.car) _ _ _ c.position.ensures.ran (YieldsList-from_slice (used t) (cc)) (λ x b q k. search (rules, tests)) ∙ place_used t (omega arith) c.args.car
