-- What an accepted Set and an accepted Feed leave as they were, whatever book the watch keeps. Assumes nothing.
use Rattle.std.specs.Prelude.{◌≡◌, ℕ, ◌*◌, ◌≤◌, true, List, length, Ok, slice_index_or}
use Rattle.mitl.specs.Rows.{timed_rows}
use Rattle.record.specs.declared.Car.{Car}
use Rattle.record.specs.declared.Record.{Record}
use Rattle.record.specs.Layout.{is_E}
use Rattle.plan.specs.Rows.{rows_of}
use Rattle.table.specs.Chain.{rows_in}
use Rattle.cars.specs.Moves.{Recorded}
use Rattle.memories.specs.Parts.{OnlyPart}
use Rattle.watch.specs.Keeping.{Held}

-- Set leaves the memories past those of its cars and the table's timed rows
pub record SetStays {M : Type 0} (t : List ℕ) (cs : List Car) (w w' : Held M) : Type 0 where
  pub long : length w'.memories ≡ length w.memories
  pub past : (k : ℕ) (m : M) → length cs * timed_rows (rows_in t) ≤ k → slice_index_or w'.memories k m ≡ slice_index_or w.memories k m

-- Feed leaves the plan, all cars but the record's, and all memories but that car's part; E leaves all memories
pub record FeedStays {M : Type 0} (r : Record) (w w' : Held M) : Type 0 where
  pub at : ℕ
  pub moves : Recorded w.inner.cars r.car r.letter w'.inner.cars (Ok at)
  pub plan : w'.inner.plan ≡ w.inner.plan
  pub only : OnlyPart (timed_rows (rows_of w.inner.plan)) at w.memories w'.memories
  pub end : is_E r.letter ≡ true → w'.memories ≡ w.memories
