-- What a record leaves: its notes and what the memories mean. Assumes nothing.
use Rattle.std.specs.Prelude.{◌≡◌, ℕ, ◌<◌, ◌≤◌, Bool, false, ◌||◌, List, ◌++◌, map, length, drop, replicate, ◌==◌, nat_lt, slice_index_or}
use Rattle.mitl.specs.declared.Row.{Row}
use Rattle.mitl.specs.Memory.{Meaning}
use Rattle.mitl.specs.Rows.{timed_rows}
use Rattle.mitl.specs.Runs.{Run}
use Rattle.record.specs.declared.Car.{Car}
use Rattle.record.specs.declared.Note.{Note}
use Rattle.engine.specs.declared.Fed.{Fed}
use Rattle.engine.specs.Means.{Means}
use Rattle.engine.specs.Due.{due, covered}

abbrev pub note : Car → Run → Note
note c r = record { car = c; word = r.word; ticks = r.count }

-- After the history h, n ticks with the input word w: the notes ns of the car c become ns', the part ms becomes ms'.
pub record Judged {X : Type 0} (meaning : X → Meaning) (rows : List Row) (h : List ℕ) (c : Car) (w n : ℕ) (ms : List X) (ns : List Note) (ms' : List X) (ns' : List Note) (reply : Fed) : Type 0 where
  pub written : ns' ≡ map (note c) (due rows h n w (length ns)) ++ drop (length (due rows h n w (length ns))) ns
  pub as_many : reply.notes ≡ length (due rows h n w (length ns))
  pub covers : reply.ticks ≡ covered rows h n w (length ns)
  pub means : Means meaning rows ms' (h ++ replicate (covered rows h n w (length ns)) w)

-- no tick, no place for a note, or fewer memories than timed rows
abbrev pub idle : {X : Type 0} → List Row → ℕ → List X → List Note → Bool
idle rows n ms ns = n == 0 || (length ns == 0 || nat_lt (length ms) (timed_rows rows))

-- nothing is written and nothing taken
pub record Unfed {X : Type 0} (ms : List X) (ns : List Note) (ms' : List X) (ns' : List Note) (reply : Fed) : Type 0 where
  pub none : reply ≡ record { notes = 0; ticks = 0 }
  pub same_part : ms' ≡ ms
  pub same_notes : ns' ≡ ns

-- For any memories at all: the part and the places keep their lengths, the memories past those of the timed rows and
-- the places past the notes written stay, and unless it is idle some of the n ticks are taken.
pub record Bounded {X : Type 0} (rows : List Row) (n : ℕ) (ms : List X) (ns : List Note) (ms' : List X) (ns' : List Note) (reply : Fed) : Type 0 where
  pub part_length : length ms' ≡ length ms
  pub places_length : length ns' ≡ length ns
  pub past : (i : ℕ) (m : X) → timed_rows rows ≤ i → slice_index_or ms' i m ≡ slice_index_or ms i m
  pub rest : drop reply.notes ns' ≡ drop reply.notes ns
  pub within_places : reply.notes ≤ length ns
  pub within_ticks : reply.ticks ≤ n
  pub some : idle rows n ms ns ≡ false → 0 < reply.ticks
