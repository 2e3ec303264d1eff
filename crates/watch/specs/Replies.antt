-- What the inner functions of the watch reply. Assumes nothing.
use Rattle.std.specs.Prelude.{◌≡◌, ℕ, Bool, cond, not, ◌||◌, List, ◌∷◌, length, Some, None, Ok, Err, Option, Result, ◌==◌, slice_index}
use Rattle.mitl.specs.Rows.{row_at, is_timed}
use Rattle.refusal.specs.Faults.{Fault, fault, first_fault}
use Rattle.record.specs.declared.Car.{Car}
use Rattle.record.specs.declared.Record.{Record}
use Rattle.record.specs.Layout.{is_V, known, fields_at, field_faults, zero_fault}
use Rattle.plan.specs.declared.plan.Plan.{Plan}
use Rattle.plan.specs.Places.{place_among_lem}
use Rattle.plan.specs.Rows.{rows_of, numbers_of}
use Rattle.table.specs.Decoded.{PlanOf}
use Rattle.cars.specs.declared.FeedFault.{FeedFault}
use Rattle.cars.specs.Cars.{Filled}
use Rattle.cars.specs.Refusals.{of_feed}
use Rattle.book.specs.Calls.{set_faults}
use Rattle.watch.specs.declared.fault.SetFault.{SetFault}
use Rattle.watch.specs.declared.inner.Inner.{Inner}
use Rattle.watch.specs.Refusals.{of_set}

-- the faults of a record that is for a car, by its bytes alone
abbrev pub bytes_faults : List ℕ → List Fault
bytes_faults bytes =
    fault (not (length bytes == 12)) 14 0
    ∷ fault (not (known (fields_at bytes).letter) || is_V (fields_at bytes).letter) 15 0
    ∷ zero_fault (slice_index bytes 1)
    ∷ field_faults (fields_at bytes)

abbrev pub ReadForCar : List ℕ → Result Record FeedFault → Type 0
ReadForCar bytes (Ok r) = (first_fault (bytes_faults bytes) ≡ None) × (r ≡ fields_at bytes)
ReadForCar bytes (Err e) = first_fault (bytes_faults bytes) ≡ Some (of_feed e)

-- the plan of a table and the table of a car list, or the first fault of Set
abbrev pub Loaded : (ℕ → ℕ → Bool) → List ℕ → List Car → ℕ → Result Inner SetFault → Type 0
Loaded admitted t cs room (Ok i) = (first_fault (set_faults admitted room t cs) ≡ None) × PlanOf t i.plan × Filled cs (length cs) i.cars
Loaded admitted t cs room (Err e) = first_fault (set_faults admitted room t cs) ≡ Some (of_set e)

-- the place of a timed row on the plan's chain
abbrev pub timed_only : Plan → Option ℕ → Option ℕ
timed_only p None = None
timed_only p (Some i) = cond (is_timed (row_at (rows_of p) i)) (Some i) None

abbrev pub PlacedRow : Plan → ℕ → Option ℕ → Type 0
PlacedRow p row r = r ≡ timed_only p (place_among_lem (numbers_of p) row)
