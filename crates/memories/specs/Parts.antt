-- The memories of a watch: a part for each car, one after another. Assumes nothing.
use Rattle.std.specs.Prelude.{◌≡◌, ℕ, ◌+◌, ◌*◌, ◌<◌, ◌≤◌, Bool, true, false, ◌⊎◌, List, [], length, drop, Some, None, Option, ◌≢◌, nat_le, slice_index_or}
use Rattle.std.specs.List.{between}
use Rattle.mitl.specs.declared.Row.{Row}
use Rattle.mitl.specs.Memory.{Meaning, clean}
use Rattle.mitl.specs.Outlook.{row_from, row_to}
use Rattle.mitl.specs.Rows.{row_at, is_timed, timed_before, timed_rows}
use Rattle.record.specs.declared.Car.{Car}
use Rattle.record.specs.declared.Note.{Note}
use Rattle.engine.specs.declared.Fed.{Fed}
use Rattle.engine.specs.Means.{Means}
use Rattle.engine.specs.Judged.{Judged}

-- the part of the car at place i, where each car has n memories
abbrev pub part_at : {X : Type 0} → ℕ → ℕ → List X → List X
part_at n i ms = between (i * n) (i * n + n) ms

-- only the memories of the car at place i may differ
pub record OnlyPart {X : Type 0} (n i : ℕ) (ms ms' : List X) : Type 0 where
  pub long : length ms' ≡ length ms
  pub elsewhere : (k : ℕ) (m : X) → (k < i * n) ⊎ (i * n + n ≤ k) → slice_index_or ms' k m ≡ slice_index_or ms k m

-- every window of the rows is admitted
abbrev pub Admitted : (ℕ → ℕ → Bool) → List Row → Type 0
Admitted admitted rows = (p : ℕ) → p < length rows → is_timed (row_at rows p) ≡ true → admitted (row_from (row_at rows p)) (row_to (row_at rows p)) ≡ true

-- a memory is prepared for a window: it has it with all marks no, or stays where the window is not admitted
pub record Ready {X : Type 0} (meaning : X → Meaning) (admitted : ℕ → ℕ → Bool) (a b : ℕ) (x x' : X) : Type 0 where
  pub served : admitted a b ≡ true → meaning x' ≡ clean a b
  pub refused : admitted a b ≡ false → x' ≡ x

-- the memories of the timed rows before place j are each prepared for their row
abbrev pub ReadyRows : {X : Type 0} → (X → Meaning) → (ℕ → ℕ → Bool) → List Row → ℕ → List X → List X → Type 0
ReadyRows {X} meaning admitted rows j xs ys =
    (p : ℕ) (m : X) → p < j → is_timed (row_at rows p) ≡ true
    → Ready meaning admitted (row_from (row_at rows p)) (row_to (row_at rows p)) (slice_index_or xs (timed_before rows p) m) (slice_index_or ys (timed_before rows p) m)

-- the part of the car at place i, where each car has n memories, lies within a list of that length
abbrev pub within : ℕ → ℕ → ℕ → Bool
within n i long = nat_le (i * n + n) long

-- Only the memories of the car at place i may differ: its part is prepared, if it lies within the list; else they stay
-- too.
pub record CarPrepared {X : Type 0} (meaning : X → Meaning) (admitted : ℕ → ℕ → Bool) (rows : List Row) (i : ℕ) (ms ms' : List X) : Type 0 where
  pub only : OnlyPart (timed_rows rows) i ms ms'
  pub whole : within (timed_rows rows) i (length ms) ≡ true → ReadyRows meaning admitted rows (length rows) (part_at (timed_rows rows) i ms) (part_at (timed_rows rows) i ms')
  pub short : within (timed_rows rows) i (length ms) ≡ false → ms' ≡ ms

-- the memories of the first n cars are prepared for the rows, and the others stay
pub record Prepared {X : Type 0} (meaning : X → Meaning) (admitted : ℕ → ℕ → Bool) (rows : List Row) (n : ℕ) (ms ms' : List X) : Type 0 where
  pub long : length ms' ≡ length ms
  pub ready : Admitted admitted rows → n * timed_rows rows ≤ length ms → (i : ℕ) → i < n → Means meaning rows (part_at (timed_rows rows) i ms') []
  pub past : (k : ℕ) (m : X) → n * timed_rows rows ≤ k → slice_index_or ms' k m ≡ slice_index_or ms k m

-- the part of the car at place i lies within the list, or does not
abbrev pub Spanned : ℕ → ℕ → ℕ → Option (ℕ × ℕ) → Type 0
Spanned i n long None = long < i * n + n
Spanned i n long (Some (from, to)) = (from ≡ i * n) × (to ≡ i * n + n) × (to ≤ long)

-- the memories of the timed rows before place j are prepared for their rows, if there are as many, and the others stay
pub record Readied {X : Type 0} (meaning : X → Meaning) (admitted : ℕ → ℕ → Bool) (rows : List Row) (j : ℕ) (ms ms' : List X) : Type 0 where
  pub long : length ms' ≡ length ms
  pub there : timed_before rows j ≤ length ms → ReadyRows meaning admitted rows j ms ms'
  pub past : (k : ℕ) (m : X) → timed_before rows j ≤ k → slice_index_or ms' k m ≡ slice_index_or ms k m

-- the memory at place i, if there is one, is prepared for a window, and the others stay
pub record PreparedAt {X : Type 0} (meaning : X → Meaning) (admitted : ℕ → ℕ → Bool) (i a b : ℕ) (ms ms' : List X) : Type 0 where
  pub long : length ms' ≡ length ms
  pub there : (m : X) → i < length ms → Ready meaning admitted a b (slice_index_or ms i m) (slice_index_or ms' i m)
  pub others : (k : ℕ) (m : X) → (k ≢ i) → slice_index_or ms' k m ≡ slice_index_or ms k m

-- the car's part alone is cleared, and so means the empty history where it meant any
pub record CarCleared {X : Type 0} (meaning : X → Meaning) (rows : List Row) (i : ℕ) (ms ms' : List X) : Type 0 where
  pub only : OnlyPart (timed_rows rows) i ms ms'
  pub means : (h : List ℕ) → Means meaning rows (part_at (timed_rows rows) i ms) h → Means meaning rows (part_at (timed_rows rows) i ms') []

-- The car's part alone is fed: over any history that it means, the notes and the part are what the engine promises.
pub record CarFed {X : Type 0} (meaning : X → Meaning) (rows : List Row) (i : ℕ) (c : Car) (w n : ℕ) (ms : List X) (ns : List Note) (ms' : List X) (ns' : List Note) (reply : Fed) : Type 0 where
  pub only : OnlyPart (timed_rows rows) i ms ms'
  pub places : length ns' ≡ length ns
  pub rest : drop reply.notes ns' ≡ drop reply.notes ns
  pub judged : (h : List ℕ) → Means meaning rows (part_at (timed_rows rows) i ms) h
      → Judged meaning rows h c w n (part_at (timed_rows rows) i ms) ns (part_at (timed_rows rows) i ms') ns' reply

-- where the memory of the row at place p lies in the part of the car at place i, if the list is that long
abbrev pub Indexed : List Row → ℕ → ℕ → ℕ → Option ℕ → Type 0
Indexed rows i p long None = (long < i * timed_rows rows + timed_rows rows) ⊎ (long ≤ i * timed_rows rows + timed_before rows p)
Indexed rows i p long (Some n) = (n ≡ i * timed_rows rows + timed_before rows p) × (n < long)
