-- What a record does to a car's state. Assumes nothing.
use Rattle.std.specs.Prelude.{◌≡◌, ℕ, Bool, true, false, cond, is_ok, Some, None, Ok, Err, Option, Result, ◌≢◌, slice_index_or}
use Rattle.std.specs.Result.{result_err}
use Rattle.refusal.specs.declared.Refusal.{Refusal}
use Rattle.refusal.specs.Faults.{refusal}
use Rattle.record.specs.declared.Car.{Car}
use Rattle.record.specs.Layout.{is_R, is_I, is_E}
use Rattle.record.specs.Cars.{car_place}
use Rattle.cars.specs.declared.CarState.{CarState}
use Rattle.cars.specs.declared.CarState.TheVariants.{Vacant, Running, Ended}
use Rattle.cars.specs.declared.Slot.{Slot}
use Rattle.cars.specs.declared.CarTable.{CarTable}
use Rattle.cars.specs.declared.FeedFault.{FeedFault}
use Rattle.cars.specs.Cars.{no_slot, place_of, cars_of, state_at}
use Rattle.cars.specs.Refusals.{of_feed}

abbrev pub is_running : CarState → Bool
is_running Vacant = false
is_running Running = true
is_running Ended = false

-- R makes a car running from any state; I leaves and E ends a running one, and both refuse another; no other letter is for a car
abbrev pub moved : Car → CarState → ℕ → Result CarState Refusal
moved c s letter =
    cond (is_R letter) (Ok Running)
    (cond (is_I letter) (cond (is_running s) (Ok s) (Err (refusal 18 (car_place c))))
    (cond (is_E letter) (cond (is_running s) (Ok Ended) (Err (refusal 18 (car_place c))))
    (Err (refusal 15 0))))

abbrev pub Moved : Slot → ℕ → Slot → Result Unit FeedFault → Type 0
Moved s letter s' (Ok u) = (moved s.car s.state letter ≡ Ok s'.state) × (s'.car ≡ s.car)
Moved s letter s' (Err e) = (moved s.car s.state letter ≡ Err (of_feed e)) × (s' ≡ s)

-- the car at place i moves, and nothing else
pub record MovedAt (t : CarTable) (i letter : ℕ) (t' : CarTable) (r : Result Unit FeedFault) : Type 0 where
  pub there : Moved (slice_index_or t.slots i no_slot) letter (slice_index_or t'.slots i no_slot) r
  pub others : (k : ℕ) → (k ≢ i) → slice_index_or t'.slots k no_slot ≡ slice_index_or t.slots k no_slot
  pub count_same : t'.count ≡ t.count
  pub refused : is_ok r ≡ false → t' ≡ t
  -- inputs change no state
  pub inputs : is_I letter ≡ true → t' ≡ t

-- the refusal of a record for a car that stands at this place, or at none
abbrev pub record_refusal : CarTable → Car → ℕ → Option ℕ → Option Refusal
record_refusal t c letter None = Some (refusal 17 (car_place c))
record_refusal t c letter (Some i) = result_err (moved c (state_at t i) letter)

-- the reply to a record for a car: its place, and it alone moves; or the refusal, and nothing does
abbrev pub Recorded : CarTable → Car → ℕ → CarTable → Result ℕ FeedFault → Type 0
Recorded t c letter t' (Ok i) = (place_of (cars_of t) c ≡ Some i) × MovedAt t i letter t' (Ok tt)
Recorded t c letter t' (Err e) = (record_refusal t c letter (place_of (cars_of t) c) ≡ Some (of_feed e)) × (t' ≡ t)
