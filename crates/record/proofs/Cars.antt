-- Cars are the same exactly where they are equal. Assumes nothing.
use Rattle.std.proofs.Common.{◌≡◌, true, refl}
use Rattle.std.proofs.lemmas.Bool.{eq-eqb, eqb-true}
use Rattle.record.specs.declared.Car.{Car}
use Rattle.record.specs.Cars.{same_car}

pub same_self : (c : Car) → same_car c c ≡ true
same_self c = eq-eqb c.number c.number refl

pub same_is : (d c : Car) → same_car d c ≡ true → d ≡ c
same_is d c e = let n = eqb-true d.number c.number e in λ i. record { number = n i }
