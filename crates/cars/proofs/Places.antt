-- Where a car stands in a list. Assumes nothing.
use Rattle.std.proofs.Common.{◌≡◌, ℕ, zero, suc, ◌+◌, ◌<◌, ◌≤◌, min, Bool, true, false, cond, not, ◌||◌, ltb, List, [], ◌∷◌, length, map, position, get_or, take, replicate, is_some, Some, None, sym, refl, ap, ◌∙◌, ap₂, inl, inr, arith}
use lib.ListN.{length-map}
use Rattle.std.specs.List.{position_or_len, list_any}
use Rattle.std.proofs.lemmas.Grind.{common_steps}
use Rattle.std.proofs.lemmas.List.Quantifiers.{position-Some}
use Rattle.cars.specs.declared.Slot.{Slot}
use Rattle.std.proofs.lemmas.List.{ext_get_or, get_or-take, get_or-map, length-take-le}
use Rattle.std.proofs.lemmas.List.FromFn.{length-map-range_with_len, get_or-map-range_with_len}
use Rattle.std.proofs.lemmas.Bool.{cases_eq}
use Rattle.refusal.specs.Faults.{refusal, fault, first_fault}
use Rattle.refusal.proofs.Held.{none_counted, first_counted}
use Rattle.record.specs.declared.Car.{Car}
use Rattle.record.specs.Cars.{same_car, no_car}
use Rattle.record.proofs.Cars.{same_is}
use Rattle.cars.specs.declared.CarTable.{CarTable}
use Rattle.cars.specs.Cars.{no_slot, place_of, listed, cars_of, wrong_car, position_faults, vacant_slot, Filled, Added}

-- a list has a place for the cars that stand in it, and for no others
pub place_listed : (cs : List Car) (c : Car) → is_some (place_of cs c) ≡ listed cs c
place_listed cs c = some_if (ltb (position_or_len (λ d. same_car d c) cs) (length cs)) _ ∙ inside cs
  where
    some_if : (b : Bool) (n : ℕ) → is_some (cond b (Some n) None) ≡ b
    some_if true n = refl
    some_if false n = refl

    inside : (ds : List Car) → ltb (position_or_len (λ d. same_car d c) ds) (length ds) ≡ list_any (λ d. same_car d c) ds
    inside [] = refl
    inside (d ∷ ds) = elim (same_car d c) as (λ b. ltb (cond (not b) (1 + position_or_len (λ d. same_car d c) ds) 0) (length (d ∷ ds)) ≡ (b || listed ds c)) [
      | true ↦ grind (arith, common_steps)
      | false ↦ grind (arith, common_steps, inside ds)
    ]

-- The cars of a table.
module _ (t : CarTable) where
  pub length_cars : length (cars_of t) ≡ min t.count 32
  length_cars = length-map-range_with_len (λ i. (get_or t.slots i no_slot).car) 0 (min t.count 32)

  pub car_at : (i : ℕ) → i < 32 → i < t.count → get_or (cars_of t) i no_car ≡ (get_or t.slots i no_slot).car
  car_at i a b = get_or-map-range_with_len (λ i. (get_or t.slots i no_slot).car) 0 (min t.count 32) i i no_car (omega arith) (omega arith)

  -- the places in use
  abbrev pub used : List Slot
  used = take (min t.count 32) t.slots

  -- the first of them that has the car is its place in the list
  pub place_used : length t.slots ≡ 32 → (c : Car) → position (λ s. same_car s.car c) used ≡ place_of (cars_of t) c
  place_used long c = rw cars_are (along used)
    where
      many : length used ≡ min t.count 32
      many = length-take-le (min t.count 32) t.slots (omega arith)

      cars_are : cars_of t ≡ map (λ s. s.car) used
      cars_are = ext_get_or no_car _ _ (length_cars ∙ sym (length-map used (λ s. s.car) ∙ many)) (λ i lt.
          car_at i (omega (arith, length_cars)) (omega (arith, length_cars))
          ∙ sym (get_or-map (λ (s : Slot). s.car) used i no_slot no_car (omega (arith, length_cars, many)) ∙ ap (λ s. s.car) (get_or-take (min t.count 32) t.slots i no_slot (omega (arith, length_cars)))))

      first : (ss : List Slot) → position_or_len (λ s. same_car s.car c) ss ≡ position_or_len (λ d. same_car d c) (map (λ s. s.car) ss)
      first [] = refl
      first (s ∷ ss) = ap (λ n. cond (not (same_car s.car c)) (1 + n) 0) (first ss)

      along : (ss : List Slot) → position (λ s. same_car s.car c) ss ≡ position (λ d. same_car d c) (map (λ s. s.car) ss)
      along ss = ap₂ (λ n l. cond (ltb n l) (Some n) None) (first ss) (sym (length-map ss (λ s. s.car)))

pub no_slots : (n k : ℕ) → get_or (replicate n no_slot) k no_slot ≡ no_slot
no_slots zero k = refl
no_slots (suc n) zero = refl
no_slots (suc n) (suc k) = no_slots n k

-- a table that has the first n cars of a list
pub cars_filled : (cs : List Car) (n : ℕ) (t : CarTable) → n ≤ 32 → n ≤ length cs → Filled cs n t → cars_of t ≡ take n cs
cars_filled cs n t few within f = ext_get_or no_car _ _ size at
  where
    front : length (take n cs) ≡ n
    front = length-take-le n cs within

    size : length (cars_of t) ≡ length (take n cs)
    size = length_cars t ∙ omega (arith, f.count_is, front)

    at : (i : ℕ) → i < length (cars_of t) → get_or (cars_of t) i no_car ≡ get_or (take n cs) i no_car
    at i lt =
        let below : i < n = omega (arith, size, front) in
        car_at t i (omega arith) (omega (arith, f.count_is)) ∙ ap (λ s. s.car) (f.there i below) ∙ sym (get_or-take n cs i no_car below)

pub filled_more : (cs : List Car) (n : ℕ) (t t' : CarTable) → Filled cs n t → Added t (get_or cs n no_car) t' → Filled cs (n + 1) t'
filled_more cs n t t' f a = record {
  count_is = a.count_more ∙ ap (λ k. k + 1) f.count_is;
  there = λ k lt. elim (cases_eq k n) [
    | inl is ↦ ap (λ i. get_or t'.slots i no_slot) (is ∙ sym f.count_is) ∙ a.last ∙ ap (λ i. vacant_slot (get_or cs i no_car)) (sym is)
    | inr not ↦ a.others k (λ e. not (e ∙ f.count_is)) ∙ f.there k (omega arith)
  ];
  past = λ k le. a.others k (λ e. omega (arith, f.count_is)) ∙ f.past k (omega arith);
}

-- a car that the table of those before refuses is wrong at its position
pub refused_is : (cs : List Car) (n : ℕ) (t : CarTable) → n ≤ 32 → n ≤ length cs → Filled cs n t
    → (same_car (get_or cs n no_car) no_car || listed (cars_of t) (get_or cs n no_car)) ≡ wrong_car cs n
refused_is cs n t few within f = ap (λ ds. same_car (get_or cs n no_car) no_car || listed ds (get_or cs n no_car)) (cars_filled cs n t few within f)

-- the faults of the positions: none, or the first
pub no_position : (cs : List Car) → ((j : ℕ) → j < length cs → wrong_car cs j ≡ false) → first_fault (position_faults cs) ≡ None
no_position cs off = none_counted (λ i. fault (wrong_car cs i) 12 (i + 1)) 0 (length cs) (λ i low high. off i (omega arith))

pub first_position : (cs : List Car) (n : ℕ) → n < length cs → ((j : ℕ) → j < n → wrong_car cs j ≡ false) → wrong_car cs n ≡ true → first_fault (position_faults cs) ≡ Some (refusal 12 (n + 1))
first_position cs n lt off on = first_counted (λ i. fault (wrong_car cs i) 12 (i + 1)) 0 (length cs) n (omega arith) (omega arith) (λ j low high. off j high) on

-- the place of a car is a place of the list, and has that car
pub place_in : (cs : List Car) (c : Car) (i : ℕ) → place_of cs c ≡ Some i → (i < length cs) × (get_or cs i no_car ≡ c)
place_in cs c i e = let p = position-Some (λ d. same_car d c) cs i no_car e in (p.0, same_is (get_or cs i no_car) c p.1)

-- and so has the slot at that place
pub car_found : (t : CarTable) (c : Car) (i : ℕ) → place_of (cars_of t) c ≡ Some i → (get_or t.slots i no_slot).car ≡ c
car_found t c i found =
    let p = place_in (cars_of t) c i found in
    sym (car_at t i (omega (arith, p.0, length_cars t)) (omega (arith, p.0, length_cars t))) ∙ p.1
