-- The call book: what is known of a watch from the calls made on it and the notes that Feed wrote. Assumes nothing.
use Rattle.std.specs.Prelude.{ℕ, cond, List, [], ◌∷◌, ◌++◌, map, replicate}
use Rattle.mitl.specs.declared.Row.{Row}
use Rattle.mitl.specs.Runs.{Run, ticks}
use Rattle.record.specs.declared.Car.{Car}
use Rattle.record.specs.declared.Note.{Note}
use Rattle.record.specs.declared.Record.{Record}
use Rattle.record.specs.Layout.{is_R, is_E, is_I}
use Rattle.record.specs.Cars.{same_car}
use Rattle.table.specs.Chain.{rows_in}
use Rattle.engine.specs.Due.{due}
use Rattle.engine.specs.Judged.{note}
use Rattle.cars.specs.declared.CarState.{CarState}
use Rattle.cars.specs.declared.CarState.TheVariants.{Vacant, Running, Ended}

-- The table and the car list that stand, and for each car its state, the input words of its ticks taken since its
-- restart, and the verdict words written for them.
pub record Book : Type 0 where
  pub table : List ℕ
  pub cars : List Car
  pub state : Car → CarState
  pub history : Car → List ℕ
  pub written : Car → List ℕ

-- no table and no cars
abbrev pub empty : Book
empty = record { table = []; cars = []; state = λ _. Vacant; history = λ _. []; written = λ _. [] }

-- the rows along the chain of the table that stands
abbrev pub rows_of_book : Book → List Row
rows_of_book k = rows_in k.table

-- x for the car c, and f for the others
abbrev pub with_car : {X : Type 0} → Car → X → (Car → X) → Car → X
with_car c x f d = cond (same_car d c) x (f d)

-- a table and a car list stand, all cars vacant, histories and written verdicts empty
abbrev pub started : List ℕ → List Car → Book
started t cs = record { table = t; cars = cs; state = λ _. Vacant; history = λ _. []; written = λ _. [] }

-- each note's word, as often as its length says, after what was written for the car that it names
abbrev pub noted : (Car → List ℕ) → List Note → Car → List ℕ
noted f [] = f
noted f (n ∷ ns) = noted (with_car n.car (f n.car ++ replicate n.ticks n.word) f) ns

-- the runs of verdict words that are due for an inputs record, where there are so many places
abbrev pub due_runs : Book → Record → ℕ → List Run
due_runs k r places = cond (is_I r.letter) (due (rows_of_book k) (k.history r.car) r.ticks r.word places) []

abbrev pub due_notes : Book → Record → ℕ → List Note
due_notes k r places = map (note r.car) (due_runs k r places)

-- a restart makes its car running, and empties its history and its written verdicts
abbrev pub restarted : Book → Car → Book
restarted k c =
    record { table = k.table; cars = k.cars; state = with_car c Running k.state; history = with_car c [] k.history; written = with_car c [] k.written }

-- an end makes its car ended
abbrev pub finished : Book → Car → Book
finished k c = record { table = k.table; cars = k.cars; state = with_car c Ended k.state; history = k.history; written = k.written }

-- inputs add their word for each tick that is taken, and the notes what they say
abbrev pub judged : Book → Record → ℕ → List Note → Book
judged k r places notes =
    record {
      table = k.table;
      cars = k.cars;
      state = k.state;
      history = with_car r.car (k.history r.car ++ replicate (ticks (due_runs k r places)) r.word) k.history;
      written = noted k.written notes;
    }

-- the book after a record that was taken, for which these notes were written
abbrev pub entered : Book → Record → ℕ → List Note → Book
entered k r places notes = cond (is_R r.letter) (restarted k r.car) (cond (is_E r.letter) (finished k r.car) (judged k r places notes))
