-- After an accepted Set the watch keeps the new book. Assumes nothing.
use Rattle.std.proofs.Common.{◌≡◌, ℕ, zero, suc, ◌+◌, ◌*◌, ◌<◌, ◌≤◌, Bool, true, false, ltb, List, [], ◌∷◌, ◌++◌, length, get_or, take, None, sym, ap, ◌∙◌, subst, inl, inr, arith}
use Rattle.std.proofs.lemmas.List.{take_all}
use Rattle.std.proofs.lemmas.Bool.{cases_lt, or_left, or_right, or_parts, both_ways, ltb-false}
use Rattle.mitl.specs.Memory.{Meaning}
use Rattle.mitl.specs.Rows.{timed_rows}
use Rattle.plan.specs.Rows.{rows_of}
use Rattle.refusal.specs.Faults.{fault, first_fault}
use Rattle.refusal.proofs.Firsts.{none_joined}
use Rattle.refusal.proofs.Held.{none_parts, off_counted}
use Rattle.record.specs.declared.Car.{Car}
use Rattle.record.specs.Cars.{same_car, no_car}
use Rattle.record.proofs.Cars.{same_self}
use Rattle.table.specs.Chain.{rows_in, table_faults, table_refusal}
use Rattle.table.specs.Decoded.{PlanOf}
use Rattle.cars.specs.Cars.{listed, wrong_car, position_faults, list_faults, Filled, cars_of}
use Rattle.cars.proofs.Places.{cars_filled}
use Rattle.memories.specs.Parts.{Prepared, Admitted}
use Rattle.book.specs.Book.{started}
use Rattle.book.specs.Calls.{set_faults}
use Rattle.watch.specs.declared.inner.Inner.{Inner}
use Rattle.watch.specs.Keeping.{held, Keeps}
use Rattle.watch.proofs.Setting.{all_admitted, few_cars}

-- a car that stands among the first n is listed there
among : (cs : List Car) (i n : ℕ) (c : Car) → i < n → i < length cs → get_or cs i no_car ≡ c → listed (take n cs) c ≡ true
among [] i n c lt within is = absurd (omega arith)
among (d ∷ ds) i zero c lt within is = absurd (omega arith)
among (d ∷ ds) zero (suc n) c lt within is = or_left (same_car d c) (listed (take n ds) c) (ap (λ x. same_car x c) is ∙ same_self c)
among (d ∷ ds) (suc i) (suc n) c lt within is = or_right (same_car d c) (listed (take n ds) c) (among ds i n c (omega arith) (omega arith) is)

-- the cars of a sound list are different
apart : (cs : List Car) → first_fault (position_faults cs) ≡ None → (i j : ℕ) → i < length cs → j < length cs → get_or cs i no_car ≡ get_or cs j no_car → i ≡ j
apart cs none i j i-in j-in same =
    elim (cases_lt i j) [
      | inl less ↦ absurd (clash i j less i-in j-in same)
      | inr more ↦ elim (cases_lt j i) [ inl less ↦ absurd (clash j i less j-in i-in (sym same)) | inr other ↦ omega arith ]
    ]
  where
    clash : (i j : ℕ) → i < j → i < length cs → j < length cs → get_or cs i no_car ≡ get_or cs j no_car → ⊥
    clash i j less i-in j-in same =
        let off = (or_parts (same_car (get_or cs j no_car) no_car) (listed (take j cs) (get_or cs j no_car)) (right_position j j-in)).1 in
        both_ways _ off (among cs i j (get_or cs j no_car) less i-in same)
      where
        right_position : (j : ℕ) → j < length cs → wrong_car cs j ≡ false
        right_position j j-in = off_counted (λ i. fault (wrong_car cs i) 12 (i + 1)) 0 (length cs) none j (omega arith) (omega arith)

module _ {M : Type 0} (meaning : M → Meaning) (admitted : ℕ → ℕ → Bool) (room : ℕ) (t : List ℕ) (cs : List Car) (inner : Inner) (ms ms' : List M)
    (size : length ms ≡ room) (none : first_fault (set_faults admitted room t cs) ≡ None) (plan : PlanOf t inner.plan) (filled : Filled cs (length cs) inner.cars)
    (prepared : Prepared meaning admitted (rows_of inner.plan) (length cs) ms ms') where
  sound : table_refusal admitted t ≡ None
  unfolding table_refusal
  sound = (none_joined (table_faults admitted t) _ none).0

  rest : first_fault (list_faults cs ++ (fault (ltb room (length cs * timed_rows (rows_in t))) 13 0 ∷ [])) ≡ None
  rest = (none_joined (table_faults admitted t) _ none).1

  list_sound : first_fault (list_faults cs) ≡ None
  list_sound = (none_joined (list_faults cs) _ rest).0

  roomy : length cs * timed_rows (rows_of inner.plan) ≤ room
  roomy =
      let last = (none_joined (list_faults cs) _ rest).1 in
      let off = (none_parts (fault (ltb room (length cs * timed_rows (rows_in t))) 13 0) [] last).0 in
      subst (λ rows. length cs * timed_rows rows ≤ room) (sym plan.rows) (ltb-false room _ off)

  cars_are : cars_of inner.cars ≡ cs
  cars_are = cars_filled cs (length cs) inner.cars (few_cars cs list_sound).1 (omega arith) filled ∙ take_all (length cs) cs (omega arith)

  pub set_kept : Keeps meaning room (held inner ms') (started t cs)
  set_kept = record {
    rows = λ _. plan.rows;
    numbers = λ _. plan.numbers;
    cars = cars_are;
    apart = apart cs (none_parts _ (position_faults cs) list_sound).1;
    states = λ i lt. ap (λ s. s.state) (filled.there i lt);
    size = prepared.long ∙ size;
    enough = roomy;
    means = λ i lt. prepared.ready (subst (Admitted admitted) (sym plan.rows) (all_admitted admitted t sound)) (omega (arith, roomy, size)) i lt;
  }
