-- What becomes of a car's part exactly. Assumes nothing.
use Rattle.std.proofs.Common.{◌≡◌, ℕ, ◌+◌, ◌-◌, ◌*◌, ◌<◌, ◌≤◌, Bool, true, false, ◌⊎◌, List, [], length, get_or, sym, refl, ap, ◌∙◌, subst, inl, inr, mul-le-mul_right, arith}
use borrow.Rule.Slice.PartMut.{put_mid}
use Rattle.std.specs.List.{between}
use Rattle.std.proofs.lemmas.Bool.{both_ways, cases_lt, cases_eq, leb-false, lt-leb}
use Rattle.mitl.specs.declared.Row.{Row}
use Rattle.mitl.specs.Memory.{Meaning, cleared}
use Rattle.mitl.specs.Rows.{timed_rows}
use Rattle.record.specs.declared.Car.{Car}
use Rattle.record.specs.declared.Note.{Note}
use Rattle.engine.specs.declared.Fed.{Fed}
use Rattle.engine.specs.Means.{Changed, Means}
use Rattle.engine.specs.Judged.{Judged}
use Rattle.memories.specs.Parts.{part_at, within, CarCleared, CarFed, CarPrepared, Prepared, Readied, ReadyRows}
use Rattle.memories.specs.Exact.{AllReadied, CarEmptied, PartFed, CarTold}
use Rattle.memories.proofs.Lent.{Back, on_part, same_part, other_part}

-- the part of a car, lent and back
module _ {X : Type 0} (meaning : X → Meaning) (rows : List Row) (i from to : ℕ) (ms ys : List X) (back : Back (timed_rows rows) i from to ms ys) where
  pub prepared_back : (admitted : ℕ → ℕ → Bool) → Readied meaning admitted rows (length rows) (between from to ms) ys → CarPrepared meaning admitted rows i ms (put_mid from (to - from) ms ys)
  prepared_back admitted told = record {
    only = back.only;
    whole = λ _. on_part _ _ _ _ _ _ back (ReadyRows meaning admitted rows (length rows)) (told.there (omega (arith, back.many)));
    short = λ off. absurd (both_ways _ off back.inside);
  }

  pub cleared_back : ((h : List ℕ) → Means meaning rows (between from to ms) h → Means meaning rows ys []) → CarCleared meaning rows i ms (put_mid from (to - from) ms ys)
  cleared_back told = record { only = back.only; means = on_part _ _ _ _ _ _ back (λ xs zs. (h : List ℕ) → Means meaning rows xs h → Means meaning rows zs []) told }

  pub emptied_back : Changed meaning cleared (timed_rows rows) (between from to ms) ys → CarEmptied meaning rows i ms (put_mid from (to - from) ms ys)
  emptied_back told = record { whole = λ _. on_part _ _ _ _ _ _ back (Changed meaning cleared (timed_rows rows)) told; short = λ off. absurd (both_ways _ off back.inside) }

  module _ (c : Car) (w n : ℕ) (ns ns' : List Note) (reply : Fed) (told : PartFed meaning rows c w n (between from to ms) ns ys ns' reply) where
    pub fed_back : CarFed meaning rows i c w n ms ns (put_mid from (to - from) ms ys) ns' reply
    fed_back = record {
      only = back.only;
      places = told.bounded.places_length;
      rest = told.bounded.rest;
      judged = on_part _ _ _ _ _ _ back (λ xs zs. (h : List ℕ) → Means meaning rows xs h → Judged meaning rows h c w n xs ns zs ns' reply) told.judged;
    }

    pub told_back : CarTold meaning rows i c w n ms ns (put_mid from (to - from) ms ys) ns' reply
    told_back = record { whole = λ _. on_part _ _ _ _ _ _ back (λ xs zs. PartFed meaning rows c w n xs ns zs ns' reply) told; short = λ off. absurd (both_ways _ off back.inside) }

-- one car after another
module _ {X : Type 0} (meaning : X → Meaning) (admitted : ℕ → ℕ → Bool) (rows : List Row) (ms : List X) where
  abbrev n : ℕ
  n = timed_rows rows

  abbrev PartReady : ℕ → List X → Type 0
  PartReady i zs = ReadyRows meaning admitted rows (length rows) (part_at n i ms) (part_at n i zs)

  pub all_none : AllReadied meaning admitted rows 0 ms ms
  all_none = record { whole = λ i lt. absurd (omega arith); short = λ i k m off le. refl }

  pub all_more : (cars : ℕ) (xs ys : List X) → Prepared meaning admitted rows cars ms xs → AllReadied meaning admitted rows cars ms xs
      → CarPrepared meaning admitted rows cars xs ys → AllReadied meaning admitted rows (cars + 1) ms ys
  all_more cars xs ys p all car = record { whole = whole; short = λ i k m off le. stays i k m off (cases_lt cars i) le ∙ all.short i k m off le }
    where
      whole : (i : ℕ) → i < cars + 1 → within n i (length ms) ≡ true → PartReady i ys
      whole i lt on = elim (cases_eq i cars) [
        | inl is ↦
            let here = subst (λ zs. ReadyRows meaning admitted rows (length rows) zs (part_at n cars ys))
            (same_part n cars ms xs p.long (λ k d low. p.past (cars * n + k) d (omega arith)))
            (car.whole (ap (within n cars) p.long ∙ ap (λ j. within n j (length ms)) (sym is) ∙ on)) in
            subst (λ j. PartReady j ys) (sym is) here
        | inr not ↦ subst (λ zs. ReadyRows meaning admitted rows (length rows) (part_at n i ms) zs) (sym (other_part n cars i xs ys car.only not)) (all.whole i (omega arith) on)
      ]

      stays : (i k : ℕ) (m : X) → within n i (length ms) ≡ false → (cars < i) ⊎ (i ≤ cars) → i * n ≤ k → get_or ys k m ≡ get_or xs k m
      stays i k m off (inl less) le = car.only.elsewhere k m (inr (omega (arith, le, mul-le-mul_right n less)))
      stays i k m off (inr more) le =
          let past : length xs < cars * n + n = omega (arith, leb-false (i * n + n) (length ms) off, p.long, mul-le-mul_right n more) in
          ap (λ zs. get_or zs k m) (car.short (lt-leb (cars * n + n) (length xs) past))
