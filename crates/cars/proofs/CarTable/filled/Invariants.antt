use Rattle.std.proofs.Common.{◌≡◌, ℕ, ◌<◌, false}
use Rattle.cars.specs.Cars.{Filled, wrong_car}
use Rattle.cars.proofs.CarTable.filled.Given as goal

abbrev pub invariant-loop-i : goal.invariant-loop-i
invariant-loop-i l = Filled l.cars l.i l.table × ((j : ℕ) → j < l.i → wrong_car l.cars j ≡ false)
