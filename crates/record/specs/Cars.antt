-- The identity of a car. Assumes nothing.
use Rattle.std.specs.Prelude.{ℕ, Bool, ◌==◌}
use Rattle.record.specs.declared.Car.{Car}

abbrev pub same_car : Car → Car → Bool
same_car c d = c.number == d.number

-- no car has this identity
abbrev pub no_car : Car
no_car = record { number = 0 }

-- a car as the place of a refusal
abbrev pub car_place : Car → ℕ
car_place c = c.number
