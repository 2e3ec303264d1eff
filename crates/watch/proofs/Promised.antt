-- The promise, from the calls' steps. Assumes nothing.
use Rattle.std.proofs.Common.{◌≡◌, ℕ, ◌<◌, Bool, true, List, [], ◌∷◌, length, subst, arith}
use Rattle.std.proofs.lemmas.Bool.{false≢true}
use Rattle.mitl.specs.Memory.{Meaning}
use Rattle.mitl.specs.Rows.{Chained}
use Rattle.record.specs.declared.Car.{Car}
use Rattle.engine.proofs.Plans.{used_chained}
use Rattle.cars.specs.Cars.{listed}
use Rattle.book.specs.Book.{Book, rows_of_book}
use Rattle.book.proofs.After.{after_any_list, kinds_agree}
use Rattle.watch.specs.Keeping.{Held, Keeps}
use Rattle.watch.specs.Promised.{Promise, BothEnds}

some : (cs : List Car) (c : Car) → listed cs c ≡ true → 0 < length cs
some [] c e = absurd (false≢true e)
some (d ∷ ds) c e = omega arith

module _ {M : Type 0} (meaning : M → Meaning) where
  chained : (room : ℕ) (w : Held M) (k : Book) → Keeps meaning room w k → (c : Car) → listed k.cars c ≡ true → Chained (rows_of_book k)
  chained room w k keeps c in_List =
      let p = w.inner.plan in
      subst Chained (keeps.rows (some k.cars c in_List)) (used_chained p.rows p.count p.few p.each)

  pub promise : (admitted : ℕ → ℕ → Bool) → Promise meaning admitted
  promise admitted room = after_any_list admitted room (Keeps meaning room) (chained room)

pub both_ends : {M N : Type 0} (meaning : M → Meaning) (admitted : ℕ → ℕ → Bool) (meaning' : N → Meaning) (admitted' : ℕ → ℕ → Bool) → BothEnds meaning admitted meaning' admitted'
both_ends meaning admitted meaning' admitted' room room' = kinds_agree admitted room (Keeps meaning room) admitted' room' (Keeps meaning' room')
