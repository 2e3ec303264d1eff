-- What holds after any list of calls on a fresh watch. Assumes nothing.
use Rattle.std.specs.Prelude.{◌≡◌, ℕ, ◌*◌, ◌/◌, ◌<◌, ◌≤◌, Bool, true, List, [], length, Some, slice_index}
use Rattle.mitl.specs.Blocks.{row_looked}
use Rattle.mitl.specs.Formulas.{parts}
use Rattle.mitl.specs.Memory.{counted, most_stretches_lem}
use Rattle.mitl.specs.Outlook.{row_from, row_to}
use Rattle.mitl.specs.Rows.{row_at, verdict, scaled_rows}
use Rattle.record.specs.declared.Car.{Car}
use Rattle.cars.specs.Cars.{listed}
use Rattle.book.specs.Book.{Book, empty, rows_of_book}
use Rattle.book.specs.Calls.{Answer, query, shown_at, timed_place, Event}
use Rattle.book.specs.Runs.{after, Told, RefusedWhen, Step, Trace}

-- what is written of one listed car
pub record VerdictsRight (k : Book) (c : Car) : Type 0 where
  -- each tick of the history has one written verdict
  pub one_each : length (k.written c) ≡ length (k.history c)
  -- and past MITL gives it to every part of that tick, however finely all ticks are split
  pub every_part : (q p : ℕ) → 1 ≤ q → p < q * length (k.history c)
      → verdict (scaled_rows q (rows_of_book k)) (parts q (k.history c)) p ≡ slice_index (k.written c) (p / q)

-- what the book says after any list of calls that it answered
pub record BooksRight : Type 0 where
  pub verdicts : (admitted : ℕ → ℕ → Bool) (room : ℕ) (es : List Event) → Told admitted room empty es → (c : Car) → VerdictsRight (after admitted room empty es) c
  pub refusals : (admitted : ℕ → ℕ → Bool) (room : ℕ) (es : List Event) → Told admitted room empty es → RefusedWhen admitted room empty es

-- a Query made now: a made call without notes
abbrev pub asked : Car → ℕ → ℕ → Answer → Event
asked c row d x = record { call = query c row d; notes = []; answer = x }

module _ {W : Type 0} (admitted : ℕ → ℕ → Bool) (room : ℕ) (Keeps : W → Book → Type 0) where
  -- a Query after the list shows each mark of the outlook that the history gives, and counts its stretches of yes
  abbrev pub ShowsOutlooks : W → Book → Type 0
  ShowsOutlooks w k = (c : Car) → listed k.cars c ≡ true → (row p d : ℕ) → timed_place k row ≡ Some p → (x : Answer) (w' : W)
      → Step admitted room Keeps w (asked c row d x) w' → x ≡ shown_at k c d (Some p)

  -- and there are at most so many stretches
  abbrev pub FewStretches : Book → Type 0
  FewStretches k = (c : Car) → listed k.cars c ≡ true → (row p : ℕ) → timed_place k row ≡ Some p
      → counted (row_looked (rows_of_book k) p (k.history c)) ≤ most_stretches_lem (row_from (row_at (rows_of_book k) p)) (row_to (row_at (rows_of_book k) p))

  -- what holds after the list es, when the watch is w
  pub record Holds (es : List Event) (w : W) : Type 0 where
    pub verdicts_right : (c : Car) → listed (after admitted room empty es).cars c ≡ true → VerdictsRight (after admitted room empty es) c
    pub answered_by_the_book : Told admitted room empty es
    pub refused_exactly_when : RefusedWhen admitted room empty es
    pub query_shows_the_outlook : ShowsOutlooks w (after admitted room empty es)
    pub few_stretches : FewStretches (after admitted room empty es)

  -- after any list of calls on a fresh watch
  abbrev pub AfterAnyList : Type 0
  AfterAnyList = (w₀ w : W) (es : List Event) → Keeps w₀ empty → Trace admitted room Keeps w₀ es w → Holds es w

-- Two watches after their own lists, on the same kind or on two kinds: where the same table stands in both and two
-- cars' histories are equal, their written verdicts are equal and Query replies alike on every row and d.
module _ {W V : Type 0} (admitted : ℕ → ℕ → Bool) (room : ℕ) (KeepsW : W → Book → Type 0) (admitted' : ℕ → ℕ → Bool) (room' : ℕ) (KeepsV : V → Book → Type 0) where
  pub record Alike (w : W) (k : Book) (c : Car) (v : V) (l : Book) (d : Car) : Type 0 where
    pub verdicts : k.written c ≡ l.written d
    pub queries : (row at : ℕ) (x y : Answer) (w' : W) (v' : V)
        → Step admitted room KeepsW w (asked c row at x) w' → Step admitted' room' KeepsV v (asked d row at y) v' → x ≡ y

  abbrev pub KindsAgree : Type 0
  KindsAgree = (w₀ w : W) (es : List Event) → KeepsW w₀ empty → Trace admitted room KeepsW w₀ es w
      → (v₀ v : V) (fs : List Event) → KeepsV v₀ empty → Trace admitted' room' KeepsV v₀ fs v
      → (c d : Car) → listed (after admitted room empty es).cars c ≡ true → listed (after admitted' room' empty fs).cars d ≡ true
      → (after admitted room empty es).table ≡ (after admitted' room' empty fs).table
      → (after admitted room empty es).history c ≡ (after admitted' room' empty fs).history d
      → Alike w (after admitted room empty es) c v (after admitted' room' empty fs) d
