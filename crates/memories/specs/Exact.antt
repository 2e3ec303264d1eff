-- What becomes of a car's part exactly: also where the list is too short for it, and where a window is not admitted.
-- Assumes nothing.
use Rattle.std.specs.Prelude.{◌≡◌, ℕ, ◌*◌, ◌<◌, ◌≤◌, Bool, true, false, List, length, slice_index_or}
use Rattle.mitl.specs.declared.Row.{Row}
use Rattle.mitl.specs.Memory.{Meaning, cleared}
use Rattle.mitl.specs.Rows.{timed_rows}
use Rattle.record.specs.declared.Car.{Car}
use Rattle.record.specs.declared.Note.{Note}
use Rattle.engine.specs.declared.Fed.{Fed}
use Rattle.engine.specs.Means.{Changed, Means}
use Rattle.engine.specs.Judged.{Bounded, Judged, Unfed, idle}
use Rattle.memories.specs.Parts.{part_at, within, ReadyRows}

-- The parts of the first n cars are prepared, as far as they lie within the list.
pub record AllReadied {X : Type 0} (meaning : X → Meaning) (admitted : ℕ → ℕ → Bool) (rows : List Row) (n : ℕ) (ms ms' : List X) : Type 0 where
  pub whole : (i : ℕ) → i < n → within (timed_rows rows) i (length ms) ≡ true
      → ReadyRows meaning admitted rows (length rows) (part_at (timed_rows rows) i ms) (part_at (timed_rows rows) i ms')
  -- from a part on that does not lie within the list all memories stay
  pub short : (i k : ℕ) (m : X) → within (timed_rows rows) i (length ms) ≡ false → i * timed_rows rows ≤ k → slice_index_or ms' k m ≡ slice_index_or ms k m

-- The part of the car at place i is cleared, whatever it means, if it lies within the list; else all memories stay.
pub record CarEmptied {X : Type 0} (meaning : X → Meaning) (rows : List Row) (i : ℕ) (ms ms' : List X) : Type 0 where
  pub whole : within (timed_rows rows) i (length ms) ≡ true → Changed meaning cleared (timed_rows rows) (part_at (timed_rows rows) i ms) (part_at (timed_rows rows) i ms')
  pub short : within (timed_rows rows) i (length ms) ≡ false → ms' ≡ ms

-- what the engine promises of a part that it is fed
pub record PartFed {X : Type 0} (meaning : X → Meaning) (rows : List Row) (c : Car) (w n : ℕ) (ms : List X) (ns : List Note) (ms' : List X) (ns' : List Note) (reply : Fed) : Type 0 where
  pub unfed : idle rows n ms ns ≡ true → Unfed ms ns ms' ns' reply
  pub bounded : Bounded rows n ms ns ms' ns' reply
  pub judged : (h : List ℕ) → Means meaning rows ms h → Judged meaning rows h c w n ms ns ms' ns' reply

-- The part of the car at place i is fed, whatever it means, if it lies within the list; else nothing is written and
-- nothing taken.
pub record CarTold {X : Type 0} (meaning : X → Meaning) (rows : List Row) (i : ℕ) (c : Car) (w n : ℕ) (ms : List X) (ns : List Note) (ms' : List X) (ns' : List Note) (reply : Fed) : Type 0 where
  pub whole : within (timed_rows rows) i (length ms) ≡ true
      → PartFed meaning rows c w n (part_at (timed_rows rows) i ms) ns (part_at (timed_rows rows) i ms') ns' reply
  pub short : within (timed_rows rows) i (length ms) ≡ false → Unfed ms ns ms' ns' reply
