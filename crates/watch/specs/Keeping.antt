-- When a watch keeps a book. Assumes nothing.
use Rattle.std.specs.Prelude.{◌≡◌, ℕ, ◌*◌, ◌<◌, ◌≤◌, Bool, List, length, slice_index_or}
use Rattle.mitl.specs.Memory.{Meaning}
use Rattle.mitl.specs.Rows.{timed_rows}
use Rattle.plan.specs.Rows.{rows_of, numbers_of}
use Rattle.table.specs.Chain.{rows_in, numbers_in}
use Rattle.engine.specs.Means.{Means}
use Rattle.cars.specs.Cars.{cars_of, state_at}
use Rattle.memories.specs.Parts.{part_at}
use Rattle.book.specs.Book.{Book, empty}
use Rattle.book.specs.Calls.{Event}
use Rattle.book.specs.Runs.{Step, Trace}
use Rattle.watch.specs.declared.inner.Inner.{Inner}
use Rattle.watch.specs.declared.Watch.{Watch}
use Rattle.record.specs.Cars.{no_car}

-- what a watch holds: its plan and cars, and its memories
pub record Held (M : Type 0) : Type 0 where
  pub inner : Inner
  pub memories : List M

abbrev pub held : {M : Type 0} → Inner → List M → Held M
held i ms = record { inner = i; memories = ms }

abbrev pub held_by : {M : Type 0} → Watch M → Held M
held_by w = held w.inner w.memories.now

-- the list of memories that was lent to a watch is still the one that it writes
abbrev pub SameList : {M : Type 0} → Watch M → Watch M → Type 0
SameList w w' = w'.memories.ghost_name ≡ w.memories.ghost_name

-- The watch w, over so many memories of a kind with this meaning, keeps the book k.
pub record Keeps {M : Type 0} (meaning : M → Meaning) (room : ℕ) (w : Held M) (k : Book) : Type 0 where
  -- once a table stands the plan has the rows of its chain, with their numbers
  pub rows : 0 < length k.cars → rows_of w.inner.plan ≡ rows_in k.table
  pub numbers : 0 < length k.cars → numbers_of w.inner.plan ≡ numbers_in k.table
  -- the cars are the book's, all different, and stand as the book says
  pub cars : cars_of w.inner.cars ≡ k.cars
  pub apart : (i j : ℕ) → i < length k.cars → j < length k.cars → slice_index_or k.cars i no_car ≡ slice_index_or k.cars j no_car → i ≡ j
  pub states : (i : ℕ) → i < length k.cars → state_at w.inner.cars i ≡ k.state (slice_index_or k.cars i no_car)
  -- there are memories for all of them
  pub size : length w.memories ≡ room
  pub enough : length k.cars * timed_rows (rows_of w.inner.plan) ≤ room
  -- and each car's part means its rows' windows and the outlooks that its history gives
  pub means : (i : ℕ) → i < length k.cars
      → Means meaning (rows_of w.inner.plan) (part_at (timed_rows (rows_of w.inner.plan)) i w.memories) (k.history (slice_index_or k.cars i no_car))

-- What each call ensures, however many memories there are: whatever book the watch keeps, the answer is by that book,
-- and then it keeps the next.
abbrev pub Steps : {M : Type 0} → (M → Meaning) → (ℕ → ℕ → Bool) → Held M → Event → Held M → Type 0
Steps meaning admitted w e w' = (room : ℕ) → Step admitted room (Keeps meaning room) w e w'

-- A fresh watch keeps the empty book, whatever its memories.
abbrev pub Fresh : {M : Type 0} → (M → Meaning) → Held M → Type 0
Fresh meaning w = Keeps meaning (length w.memories) w empty

-- calls one after another, with nothing between
abbrev pub Runs : {M : Type 0} → (M → Meaning) → (ℕ → ℕ → Bool) → Held M → List Event → Held M → Type 0
Runs meaning admitted w es w' = (room : ℕ) → Trace admitted room (Keeps meaning room) w es w'
