-- The rows of a sheet. Assumes nothing.
use Rattle.std.specs.Prelude.{◌≡◌, ℕ, ◌<◌, ◌≤◌, List, map, length, Some, None, Ok, Err, Option, Result, slice_index}
use Rattle.std.specs.List.{All, Contains}
use Rattle.refusal.specs.Faults.{first_fault}
use Rattle.record.specs.declared.Car.{Car}
use Rattle.record.specs.declared.Note.{Note}
use Rattle.share.specs.declared.ShareFault.{ShareFault}
use Rattle.share.specs.Ticks.{car_ticks, figure}
use Rattle.share.specs.Replies.{refusal_of, note_faults, Busiest}
use Rattle.sheet.specs.declared.Row.{Row}

-- all the car's ticks, each rule's figure, and the busiest rule
pub record Sums (ns : List Note) (c : Car) (r : Row) : Type 0 where
  pub car_is : r.car ≡ c
  pub ticks_is : r.ticks ≡ car_ticks ns c
  pub sixteen : length r.shares ≡ 16
  pub shares_are : (i : ℕ) → i < 16 → slice_index r.shares i ≡ figure ns c i
  pub busiest_is : Busiest ns c 16 r.busiest

-- The car's row if no fault holds, else the first fault.
abbrev pub Rowed : List Note → Car → Result Row ShareFault → Type 0
Rowed ns c (Ok r) = (first_fault (note_faults ns c) ≡ None) × Sums ns c r
Rowed ns c (Err e) = first_fault (note_faults ns c) ≡ Some (refusal_of e)

-- a car has the same ticks in two lists of notes, and each rule the same figure
abbrev pub SameShares : List Note → List Note → Car → Type 0
SameShares ms ns c = (car_ticks ms c ≡ car_ticks ns c) × ((i : ℕ) → figure ms c i ≡ figure ns c i)

-- The lowest car above a number, or none.
abbrev pub Next : List Note → ℕ → Option Car → Type 0
Next ns n (Some c) = (n < c.number) × Contains (map (λ m. m.car) ns) c × All (λ m. n < m.car.number → c.number ≤ m.car.number) ns
Next ns n None = All (λ m. m.car.number ≤ n) ns
