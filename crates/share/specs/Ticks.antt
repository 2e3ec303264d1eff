-- A car's ticks in a list of notes, and a rule's share of them. Assumes nothing.
use Rattle.std.specs.Prelude.{ℕ, ◌*◌, ◌/◌, ◌%◌, ◌^◌, Bool, ◌&&◌, List, filter, sum_by, ◌==◌}
use Rattle.record.specs.declared.Car.{Car}
use Rattle.record.specs.declared.Note.{Note}
use Rattle.record.specs.Cars.{same_car}

-- bit i of a word is 1
abbrev pub bit : ℕ → ℕ → Bool
bit i w = w / 2 ^ i % 2 == 1

-- the note is of this car
abbrev pub of_car : Car → Note → Bool
of_car c n = same_car n.car c

-- the note is of this car, and the rule was yes
abbrev pub yes_of : Car → ℕ → Note → Bool
yes_of c i n = of_car c n && bit i n.word

-- the ticks of the notes that count
abbrev pub ticks_where : (Note → Bool) → List Note → ℕ
ticks_where counts ns = sum_by (λ n. n.ticks) (filter counts ns)

abbrev pub car_ticks : List Note → Car → ℕ
car_ticks ns c = ticks_where (of_car c) ns

abbrev pub rule_ticks : List Note → Car → ℕ → ℕ
rule_ticks ns c i = ticks_where (yes_of c i) ns

-- a part of a whole in thousandths: the remainder is dropped
abbrev pub per_mille_lem : ℕ → ℕ → ℕ
per_mille_lem part whole = part * 1000 / whole

-- a rule's share of a car's ticks
abbrev pub figure : List Note → Car → ℕ → ℕ
figure ns c i = per_mille_lem (rule_ticks ns c i) (car_ticks ns c)
