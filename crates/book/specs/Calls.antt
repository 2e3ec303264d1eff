-- The three calls, what is wrong with one, its one answer, and the book after it. Assumes nothing.
use Rattle.std.specs.Prelude.{◌≡◌, ℕ, ◌*◌, Bool, true, false, cond, not, ◌&&◌, ◌||◌, List, [], ◌∷◌, ◌++◌, length, Some, None, Option, ◌==◌, nat_lt, slice_index}
use Rattle.mitl.specs.Blocks.{row_looked}
use Rattle.mitl.specs.Memory.{Meaning, counted}
use Rattle.mitl.specs.Rows.{row_at, is_timed, timed_rows}
use Rattle.mitl.specs.Runs.{ticks}
use Rattle.refusal.specs.declared.Refusal.{Refusal}
use Rattle.refusal.specs.Faults.{Fault, fault, first_fault}
use Rattle.record.specs.declared.Car.{Car}
use Rattle.record.specs.declared.Note.{Note}
use Rattle.record.specs.declared.Record.{Record}
use Rattle.record.specs.Layout.{is_I, is_E, is_V, known, fields_at, field_faults, zero_fault}
use Rattle.record.specs.Cars.{car_place}
use Rattle.plan.specs.declared.Counts.{Counts}
use Rattle.plan.specs.Places.{place_among_lem}
use Rattle.plan.specs.Totals.{counts_of}
use Rattle.table.specs.Chain.{rows_in, numbers_in, table_faults}
use Rattle.cars.specs.Cars.{listed, list_faults}
use Rattle.cars.specs.Moves.{is_running}
use Rattle.book.specs.Book.{Book, rows_of_book, started, due_runs, due_notes, entered}

-- a call with its arguments; of the list of places for notes only its length matters
pub data Call : Type 0 where
  set : (table : List ℕ) (cars : List Car) → Call
  feed : (bytes : List ℕ) (places : ℕ) → Call
  query : (car : Car) (row d : ℕ) → Call

pub data Answer : Type 0 where
  refused : Refusal → Answer
  planned : Counts → Answer
  fed : (notes ticks : ℕ) → Answer
  shown : (mark : Bool) (count : ℕ) → Answer

-- a call that was made, the notes that it wrote, and its answer
pub record Event : Type 0 where
  pub call : Call
  pub notes : List Note
  pub answer : Answer

-- the place on a table's chain of the row with this number, if it is timed
abbrev pub if_timed : List ℕ → Option ℕ → Option ℕ
if_timed t None = None
if_timed t (Some p) = cond (is_timed (row_at (rows_in t) p)) (Some p) None

abbrev pub timed_in : List ℕ → ℕ → Option ℕ
timed_in t row = if_timed t (place_among_lem (numbers_in t) row)

abbrev pub timed_place : Book → ℕ → Option ℕ
timed_place k row = timed_in k.table row

abbrev pub no_place : Option ℕ → Bool
no_place None = true
no_place (Some p) = false

-- what can be wrong with a record for the car that it names, by the book
abbrev pub car_faults : Book → Record → ℕ → List Fault
car_faults k r places =
    fault (not (listed k.cars r.car)) 17 (car_place r.car)
    ∷ fault ((is_I r.letter || is_E r.letter) && not (is_running (k.state r.car))) 18 (car_place r.car)
    ∷ fault (is_I r.letter && places == 0) 19 0
    ∷ []

-- Feed's faults, in their order: a V record is for no car
abbrev pub feed_faults : Book → List ℕ → ℕ → List Fault
feed_faults k bytes places =
    fault (not (length bytes == 12)) 14 0
    ∷ fault (not (known (fields_at bytes).letter) || is_V (fields_at bytes).letter) 15 0
    ∷ zero_fault (slice_index bytes 1)
    ∷ (field_faults (fields_at bytes) ++ car_faults k (fields_at bytes) places)

-- Query's faults
abbrev pub query_faults : Book → Car → ℕ → List Fault
query_faults k c row = fault (not (listed k.cars c)) 17 (car_place c) ∷ fault (no_place (timed_place k row)) 20 row ∷ []

-- what Query shows of a row: mark d of the outlook that the history gives, and its stretches of yes
abbrev pub shows : Meaning → ℕ → Answer
shows m d = shown (m.mark d) (counted m)

abbrev pub shown_at : Book → Car → ℕ → Option ℕ → Answer
shown_at k c d None = shown false 0
shown_at k c d (Some p) = shows (row_looked (rows_of_book k) p (k.history c)) d

module _ (admitted : ℕ → ℕ → Bool) (room : ℕ) where
  -- Set's faults, for a kind's limit and so many memories: the table's, then the car list's, then too few memories
  abbrev pub set_faults : List ℕ → List Car → List Fault
  set_faults t cs = table_faults admitted t ++ (list_faults cs ++ (fault (nat_lt room (length cs * timed_rows (rows_in t))) 13 0 ∷ []))

  -- what can be wrong with a call, in the order in which it is looked for
  abbrev pub faults_of_call : Book → Call → List Fault
  faults_of_call k (set t cs) = set_faults t cs
  faults_of_call k (feed bytes places) = feed_faults k bytes places
  faults_of_call k (query c row d) = query_faults k c row

  unfoldable pub call_refusal : Book → Call → Option Refusal
  call_refusal k x = first_fault (faults_of_call k x)

  -- the answer and the notes of a call without a fault
  abbrev pub accepted_answer : Book → Call → Answer
  accepted_answer k (set t cs) = planned (counts_of (rows_in t))
  accepted_answer k (feed bytes places) = fed (length (due_runs k (fields_at bytes) places)) (ticks (due_runs k (fields_at bytes) places))
  accepted_answer k (query c row d) = shown_at k c d (timed_place k row)

  abbrev pub accepted_notes : Book → Call → List Note
  accepted_notes k (set t cs) = []
  accepted_notes k (feed bytes places) = due_notes k (fields_at bytes) places
  accepted_notes k (query c row d) = []

  -- The one answer: the first fault's refusal, and then no note; else that of a call without a fault.
  abbrev pub Answered : Book → Call → List Note → Answer → Option Refusal → Type 0
  Answered k x notes answer None = (notes ≡ accepted_notes k x) × (answer ≡ accepted_answer k x)
  Answered k x notes answer (Some r) = (notes ≡ []) × (answer ≡ refused r)

  abbrev pub Right : Book → Event → Type 0
  Right k e = Answered k e.call e.notes e.answer (call_refusal k e.call)

  -- the book after a call: by its arguments and the notes that Feed wrote; a refused call and a Query change nothing
  abbrev pub after_call : Book → Call → List Note → Book
  after_call k (set t cs) notes = started t cs
  after_call k (feed bytes places) notes = entered k (fields_at bytes) places notes
  after_call k (query c row d) notes = k

  abbrev pub after_unless : Book → Call → List Note → Option Refusal → Book
  after_unless k x notes None = after_call k x notes
  after_unless k x notes (Some r) = k

  abbrev pub next : Book → Event → Book
  next k e = after_unless k e.call e.notes (call_refusal k e.call)
