-- What a watch that keeps a book shows. Assumes nothing.
use Rattle.std.proofs.Common.{◌≡◌, ℕ, ◌+◌, ◌-◌, ◌*◌, ◌<◌, ◌≤◌, min, true, cond, not, ◌⊎◌, List, length, get_or, drop, is_some, Some, None, Ok, Err, Option, sym, refl, ap, ◌∙◌, subst, ap₂, inl, inr, mul-le-mul_right, arith}
use Rattle.std.proofs.lemmas.List.{get_or-take, get_or-drop}
use Rattle.std.proofs.lemmas.Bool.{cond-true, cond-false, not_from_true, not_from_false}
use Rattle.std.specs.Option.{ok_or}
use Rattle.mitl.specs.declared.Row.{Row}
use Rattle.mitl.specs.Blocks.{row_looked}
use Rattle.mitl.specs.Memory.{Meaning, counted}
use Rattle.mitl.specs.Rows.{row_at, is_timed, timed_before, timed_rows}
use Rattle.refusal.specs.Faults.{refusal, first_fault}
use Rattle.record.specs.declared.Car.{Car}
use Rattle.record.specs.Cars.{no_car, car_place}
use Rattle.plan.specs.Rows.{rows_of, numbers_of}
use Rattle.plan.specs.Places.{place_among_lem}
use Rattle.table.specs.Chain.{rows_in, numbers_in}
use Rattle.engine.specs.Means.{Means}
use Rattle.engine.proofs.Plans.{used_most, timed_past}
use Rattle.cars.specs.Cars.{listed, place_of, cars_of}
use Rattle.cars.proofs.Places.{place_listed, place_in}
use Rattle.memories.specs.declared.Shown.{Shown}
use Rattle.memories.specs.Parts.{part_at, Indexed}
use Rattle.book.specs.Book.{Book}
use Rattle.book.specs.Calls.{shown, query_faults, timed_place, if_timed, no_place, shown_at}
use Rattle.book.proofs.After.{timed_on}
use Rattle.watch.specs.Keeping.{Held, Keeps}
use Rattle.watch.specs.Replies.{timed_only}

-- what a search did not find, told by its fault, and what it found
pub missing : {T E : Type 0} (o p : Option T) (e x : E) → o ≡ p → Err x ≡ ok_or o e → (p ≡ None) × (x ≡ e)
missing None p e x is told = (sym is, cc)
missing (Some t) p e x is told = cc

pub there : {T E : Type 0} (o p : Option T) (e : E) (t : T) → o ≡ p → Ok t ≡ ok_or o e → p ≡ Some t
there None p e t is told = cc
there (Some s) p e t is told = cc

module _ {M : Type 0} (meaning : M → Meaning) (room : ℕ) (w : Held M) (k : Book) (keeps : Keeps meaning room w k) (c : Car) where
  abbrev found : Option ℕ
  found = place_of (cars_of w.inner.cars) c

  pub listed_is : is_some found ≡ listed k.cars c
  listed_is = place_listed (cars_of w.inner.cars) c ∙ ap (λ cs. listed cs c) keeps.cars

  module _ (at : ℕ) (is : found ≡ Some at) where
    pub in_list : listed k.cars c ≡ true
    in_list = sym listed_is ∙ ap is_some is

    pub place_is : (at < length k.cars) × (get_or k.cars at no_car ≡ c)
    place_is = place_in k.cars c at (ap (λ cs. place_of cs c) (sym keeps.cars) ∙ is)

    pub some_cars : 0 < length k.cars
    some_cars = omega (arith, place_is.0)

    abbrev rows : List Row
    rows = rows_of w.inner.plan

    abbrev n : ℕ
    n = timed_rows rows

    -- the car's part lies within the list
    pub part_within : at * n + n ≤ length w.memories
    part_within = omega (arith, mul-le-mul_right n place_is.0, keeps.enough, keeps.size)

    pub part_means : Means meaning rows (part_at n at w.memories) (k.history c)
    part_means = subst (λ d. Means meaning rows (part_at n at w.memories) (k.history d)) place_is.1 (keeps.means at place_is.0)

    pub timed_is : (row : ℕ) → timed_only w.inner.plan (place_among_lem (numbers_of w.inner.plan) row) ≡ timed_place k row
    timed_is row =
        ap (λ ns. timed_only w.inner.plan (place_among_lem ns row)) (keeps.numbers some_cars)
        ∙ only (place_among_lem (numbers_in k.table) row)
      where
        only : (o : Option ℕ) → timed_only w.inner.plan o ≡ if_timed k.table o
        only None = refl
        only (Some i) = ap (λ rs. cond (is_timed (row_at rs i)) (Some i) None) (keeps.rows some_cars)

  -- 17: the car is not listed
  pub not_listed : (row : ℕ) → found ≡ None → first_fault (query_faults k c row) ≡ Some (refusal 17 (car_place c))
  not_listed row is = cond-true (not (listed k.cars c)) (Some (refusal 17 (car_place c))) _ (not_from_false _ (sym listed_is ∙ ap is_some is))

  module _ (at : ℕ) (is : found ≡ Some at) (row : ℕ) where
    on_list : first_fault (query_faults k c row) ≡ cond (no_place (timed_place k row)) (Some (refusal 20 row)) None
    on_list = cond-false (not (listed k.cars c)) (Some (refusal 17 (car_place c))) _ (not_from_true _ (in_list at is))

    -- 20: the row is not timed
    pub not_timed : timed_place k row ≡ None → first_fault (query_faults k c row) ≡ Some (refusal 20 row)
    not_timed none = on_list ∙ ap (λ o. cond (no_place o) (Some (refusal 20 row)) None) none

    module _ (p : ℕ) (place : timed_place k row ≡ Some p) where
      pub no_fault : first_fault (query_faults k c row) ≡ None
      no_fault = on_list ∙ ap (λ o. cond (no_place o) (Some (refusal 20 row)) None) place

      on : (p < length (rows at is)) × (is_timed (row_at (rows at is) p) ≡ true)
      on = subst (λ rs. (p < length rs) × (is_timed (row_at rs p) ≡ true)) (sym (keeps.rows (some_cars at is))) (timed_on k.table row p place)

      same_place : min p w.inner.plan.count ≡ p
      same_place = let q = w.inner.plan in omega (arith, on.0, used_most q.rows q.count q.few q.each)

      inside : timed_before (rows at is) p < n at is
      inside = timed_past (rows at is) p (length (rows at is)) on.0 on.1

      -- the memory is there
      pub not_missing : Indexed (rows at is) at (min p w.inner.plan.count) (length w.memories) None → ⊥
      not_missing none = clash (subst (λ q. Indexed (rows at is) at q (length w.memories) None) same_place none)
        where
          clash : (length w.memories < at * n at is + n at is) ⊎ (length w.memories ≤ at * n at is + timed_before (rows at is) p) → ⊥
          clash (inl short) = omega (arith, part_within at is)
          clash (inr short) = omega (arith, part_within at is, inside)

      -- and shows what the history gives
      pub shown_right : (d i : ℕ) (s : Shown) (m : M) → Indexed (rows at is) at (min p w.inner.plan.count) (length w.memories) (Some i)
          → s.mark ≡ (meaning (get_or w.memories i m)).mark d → s.count ≡ counted (meaning (get_or w.memories i m)) → shown s.mark s.count ≡ shown_at k c d (timed_place k row)
      shown_right d i s m indexed mark count =
          let q = at * n at is + timed_before (rows at is) p in
          let there : i ≡ q = (subst (λ r. Indexed (rows at is) at r (length w.memories) (Some i)) same_place indexed).0 in
          let part : get_or (part_at (n at is) at w.memories) (timed_before (rows at is) p) m ≡ get_or w.memories q m =
          get_or-take (at * n at is + n at is - at * n at is) (drop (at * n at is) w.memories) (timed_before (rows at is) p) m (omega (arith, inside))
          ∙ get_or-drop (at * n at is) w.memories (timed_before (rows at is) p) m in
          let means : meaning (get_or w.memories i m) ≡ row_looked (rows_in k.table) p (k.history c) =
          ap meaning (ap (λ j. get_or w.memories j m) there ∙ sym part) ∙ (part_means at is).outlooks p m on.0 on.1
          ∙ ap (λ rs. row_looked rs p (k.history c)) (keeps.rows (some_cars at is)) in
          ap₂ shown (mark ∙ ap (λ (x : Meaning). x.mark d) means) (count ∙ ap counted means) ∙ sym (ap (shown_at k c d) place)
