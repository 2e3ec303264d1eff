-- The lines that go out, byte by byte. Assumes nothing.
use Rattle.std.specs.Prelude.{ℕ, List, [], ◌∷◌, ◌++◌, decimal}
use Rattle.plan.specs.declared.Counts.{Counts}
use Rattle.record.specs.declared.Car.{Car}
use Rattle.record.specs.declared.Note.{Note}
use Rattle.refusal.specs.declared.Refusal.{Refusal}

-- each number in decimal after a space, and then a line feed
abbrev pub numbers_line : List ℕ → List ℕ
numbers_line [] = 10 ∷ []
numbers_line (n ∷ ns) = 32 ∷ (decimal n ++ numbers_line ns)

-- V: a note's car, verdict word and length
abbrev pub note_line : Note → List ℕ
note_line n = 86 ∷ numbers_line (n.car.number ∷ n.word ∷ n.ticks ∷ [])

-- K: a car that restarted or ended
abbrev pub car_line : Car → List ℕ
car_line c = 75 ∷ numbers_line (c.number ∷ [])

-- T: the rows of a table's chain, its rules and its timed rows
abbrev pub counts_line : Counts → List ℕ
counts_line c = 84 ∷ numbers_line (c.rows ∷ c.rules ∷ c.timed ∷ [])

-- X: a refusal's number and place
abbrev pub refusal_line : Refusal → List ℕ
refusal_line r = 88 ∷ numbers_line (r.number ∷ r.place ∷ [])
