-- Cars, and lists of different cars. Assumes nothing.
use Rattle.std.specs.Prelude.{◌≡◌, ℕ, ◌+◌, ◌<◌, ◌≤◌, min, Bool, not, ◌&&◌, ◌||◌, List, ◌∷◌, map, length, position, get_or, take, Option, ◌≢◌, nat_le, slice_index_or}
use Rattle.std.specs.List.{range_with_len, list_any}
use Rattle.refusal.specs.Faults.{Fault, fault}
use Rattle.record.specs.declared.Car.{Car}
use Rattle.record.specs.Cars.{same_car, no_car}
use Rattle.cars.specs.declared.CarState.{CarState}
use Rattle.cars.specs.declared.CarState.TheVariants.{Vacant}
use Rattle.cars.specs.declared.Slot.{Slot}
use Rattle.cars.specs.declared.CarTable.{CarTable}

-- the first place of a car in a list
abbrev pub place_of : List Car → Car → Option ℕ
place_of cs c = position (λ d. same_car d c) cs

abbrev pub listed : List Car → Car → Bool
listed cs c = list_any (λ d. same_car d c) cs

-- The car at place i of a list is zero or stands before.
abbrev pub wrong_car : List Car → ℕ → Bool
wrong_car cs i = same_car (slice_index_or cs i no_car) no_car || listed (take i cs) (slice_index_or cs i no_car)

abbrev pub position_faults : List Car → List Fault
position_faults cs = map (λ i. fault (wrong_car cs i) 12 (i + 1)) (range_with_len 0 (length cs))

-- What can be wrong with a list of cars, in the order in which it is looked for: it has 1 to 32 of them, and then
-- each position, from 1.
abbrev pub list_faults : List Car → List Fault
list_faults cs = fault (not (nat_le 1 (length cs) && nat_le (length cs) 32)) 12 0 ∷ position_faults cs

-- what stands past the end of a table of cars
abbrev pub no_slot : Slot
no_slot = record { car = no_car; state = Vacant }

-- the cars of a table, which has 32 places, and the state of the car at place i
abbrev pub cars_of : CarTable → List Car
cars_of t = map (λ i. (get_or t.slots i no_slot).car) (range_with_len 0 (min t.count 32))

abbrev pub state_at : CarTable → ℕ → CarState
state_at t i = (get_or t.slots i no_slot).state

-- a vacant car of a table
abbrev pub vacant_slot : Car → Slot
vacant_slot c = record { car = c; state = Vacant }

-- the table has the first n cars of the list, all vacant, and nothing else
pub record Filled (cs : List Car) (n : ℕ) (t : CarTable) : Type 0 where
  pub count_is : t.count ≡ n
  pub there : (k : ℕ) → k < n → slice_index_or t.slots k no_slot ≡ vacant_slot (slice_index_or cs k no_car)
  pub past : (k : ℕ) → n ≤ k → slice_index_or t.slots k no_slot ≡ no_slot

-- one more car at the end, vacant
pub record Added (t : CarTable) (c : Car) (t' : CarTable) : Type 0 where
  pub count_more : t'.count ≡ t.count + 1
  pub last : get_or t'.slots t.count no_slot ≡ vacant_slot c
  pub others : (k : ℕ) → (k ≢ t.count) → slice_index_or t'.slots k no_slot ≡ slice_index_or t.slots k no_slot
