-- The refusals of the car layer, and of a record for a car. Assumes nothing.
use Rattle.std.specs.Prelude.{◌≡◌, List, length, Some, None, Ok, Err, Result}
use Rattle.refusal.specs.declared.Refusal.{Refusal}
use Rattle.refusal.specs.Faults.{refusal, first_fault}
use Rattle.record.specs.declared.Car.{Car}
use Rattle.record.specs.Cars.{car_place}
use Rattle.record.specs.Replies.{refusal_of}
use Rattle.cars.specs.declared.CarTable.{CarTable}
use Rattle.cars.specs.Cars.{list_faults, position_faults, Filled}
use Rattle.cars.specs.declared.CarFault.{CarFault}
use Rattle.cars.specs.declared.CarFault.TheVariants.{NotListed, NotRunning, NoPlace, NoTimedRow}
use Rattle.cars.specs.declared.FeedFault.{FeedFault}
use Rattle.cars.specs.declared.FeedFault.TheVariants.{Record, Car as OfCar}
use Rattle.cars.specs.declared.ListFault.{ListFault}
use Rattle.cars.specs.declared.ListFault.TheVariants.{Size, Position}

abbrev pub of_car : CarFault → Refusal
of_car (NotListed c) = refusal 17 (car_place c)
of_car (NotRunning c) = refusal 18 (car_place c)
of_car NoPlace = refusal 19 0
of_car (NoTimedRow r) = refusal 20 r

abbrev pub of_feed : FeedFault → Refusal
of_feed (Record e) = refusal_of e
of_feed (OfCar e) = of_car e

abbrev pub of_list : ListFault → Refusal
of_list Size = refusal 12 0
of_list (Position p) = refusal 12 p

-- The reply to a list of cars: its first fault, or the table of its cars, all vacant.
abbrev pub Listed : List Car → Result CarTable ListFault → Type 0
Listed cs (Ok t) = (first_fault (list_faults cs) ≡ None) × Filled cs (length cs) t
Listed cs (Err e) = first_fault (list_faults cs) ≡ Some (of_list e)

-- the same by its positions alone
abbrev pub Placed : List Car → Result CarTable ListFault → Type 0
Placed cs (Ok t) = (first_fault (position_faults cs) ≡ None) × Filled cs (length cs) t
Placed cs (Err e) = first_fault (position_faults cs) ≡ Some (of_list e)
