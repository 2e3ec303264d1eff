-- A part of a list that was lent and is back. Assumes nothing.
use Rattle.std.proofs.Common.{◌≡◌, ℕ, ◌+◌, ◌-◌, ◌*◌, ◌<◌, ◌≤◌, min, Bool, true, Some, ◌⊎◌, List, [], length, get_or, take, drop, sym, refl, ap, ◌∙◌, subst, ap₂, inl, inr, mul-le-mul_right, add-mul, one-mul, arith, length-drop, length-take}
use borrow.Rule.Slice.PartMut.{put_mid, same_len_mid, mid_len}
use Rattle.std.specs.List.{between}
use Rattle.std.proofs.lemmas.List.{get_or_append_left, get_or-append_right, get_or-take, get_or-drop, length-take-le, same_lists}
use Rattle.std.proofs.lemmas.Slice.{between-put_mid}
use Rattle.std.proofs.lemmas.Bool.{cases_lt, cases_eq, le-leb}
use Rattle.mitl.specs.declared.Row.{Row}
use Rattle.mitl.specs.Memory.{Meaning, clean}
use Rattle.mitl.specs.Rows.{Chained, timed_rows, formula_at, formulas}
use Rattle.mitl.proofs.Marks.{row_window, outlook_fresh}
use Rattle.engine.specs.Means.{Means}
use Rattle.memories.specs.Parts.{Spanned, within, part_at, OnlyPart, Admitted, CarPrepared, Prepared}

module _ {X : Type 0} (a e : ℕ) (xs ys : List X) (order : a ≤ e) (within : e ≤ length xs) (size : length ys ≡ length (between a e xs)) where
  abbrev put : List X
  put = put_mid a (e - a) xs ys

  many : length ys ≡ e - a
  many = size ∙ mid_len a e xs within

  front : length (take a xs) ≡ a
  front = length-take-le a xs (omega arith)

  pub put_long : length put ≡ length xs
  put_long = same_len_mid a (e - a) xs ys size

  pub put_part : between a e put ≡ ys
  put_part = between-put_mid a (e - a) xs ys e (omega arith) many

  pub put_below : (k : ℕ) (d : X) → k < a → get_or put k d ≡ get_or xs k d
  put_below k d h = get_or_append_left (take a xs) _ d k (omega (arith, front)) ∙ get_or-take a xs k d h

  pub put_past : (k : ℕ) (d : X) → e ≤ k → get_or put k d ≡ get_or xs k d
  put_past k d h =
      let at : a + ((e - a) + (k - a - (e - a))) ≡ k = omega arith in
      get_or-append_right (take a xs) _ a k d front (omega arith) ∙ get_or-append_right ys _ (e - a) (k - a) d many (omega arith)
      ∙ get_or-drop (e - a) (drop a xs) (k - a - (e - a)) d ∙ get_or-drop a xs _ d ∙ ap (λ n. get_or xs n d) at

-- what the part of a car holds
part_reads : {X : Type 0} (n j : ℕ) (xs : List X) (k : ℕ) (d : X) → k < n → get_or (part_at n j xs) k d ≡ get_or xs (j * n + k) d
part_reads n j xs k d lt = get_or-take (j * n + n - j * n) (drop (j * n) xs) k d (omega arith) ∙ get_or-drop (j * n) xs k d

-- a part whose memories are as they were
pub same_part : {X : Type 0} (n j : ℕ) (ms ms' : List X) → length ms' ≡ length ms → ((k : ℕ) (d : X) → k < n → get_or ms' (j * n + k) d ≡ get_or ms (j * n + k) d) → part_at n j ms' ≡ part_at n j ms
same_part {X} n j ms ms' long same = same_lists _ _ size at
  where
    size : length (part_at n j ms') ≡ length (part_at n j ms)
    size = length-take (j * n + n - j * n) (drop (j * n) ms')
        ∙ ap (λ k. min (j * n + n - j * n) k) (length-drop (j * n) ms' ∙ ap (λ k. k - j * n) long ∙ sym (length-drop (j * n) ms))
        ∙ sym (length-take (j * n + n - j * n) (drop (j * n) ms))

    at : (k : ℕ) (d : X) → k < length (part_at n j ms') → get_or (part_at n j ms') k d ≡ get_or (part_at n j ms) k d
    at k d lt =
        let low : k < n = omega (arith, length-take (j * n + n - j * n) (drop (j * n) ms')) in
        part_reads n j ms' k d low ∙ same k d low ∙ sym (part_reads n j ms k d low)

-- the parts of the other cars are as they were
pub other_part : {X : Type 0} (n i j : ℕ) (ms ms' : List X) → OnlyPart n i ms ms' → (j ≡ i → ⊥) → part_at n j ms' ≡ part_at n j ms
other_part {X} n i j ms ms' only apart = same_part n j ms ms' only.long (λ k d low. only.elsewhere (j * n + k) d (away k low))
  where
    away : (k : ℕ) → k < n → (j * n + k < i * n) ⊎ (i * n + n ≤ j * n + k)
    away k low = elim (cases_lt j i) [
      | inl less ↦ inl (omega (arith, mul-le-mul_right n less))
      | inr more ↦ (let above : i < j = omega arith in inr (omega (arith, mul-le-mul_right n above)))
    ]

-- The part of the car at place i, lent and back.
pub record Back {X : Type 0} (n i from to : ℕ) (ms ys : List X) : Type 0 where
  pub inside : within n i (length ms) ≡ true
  pub many : length (between from to ms) ≡ n
  pub only : OnlyPart n i ms (put_mid from (to - from) ms ys)
  pub now_is : part_at n i (put_mid from (to - from) ms ys) ≡ ys
  pub was : part_at n i ms ≡ between from to ms

-- what holds of the part that was lent, before and after, holds of the car's part
pub on_part : {X : Type 0} (n i from to : ℕ) (ms ys : List X) → Back n i from to ms ys → (P : List X → List X → Type 0) → P (between from to ms) ys
    → P (part_at n i ms) (part_at n i (put_mid from (to - from) ms ys))
on_part n i from to ms ys back P holds = subst (λ zs. P (part_at n i ms) zs) (sym back.now_is) (subst (λ zs. P zs ys) (sym back.was) holds)

pub lent_back : {X : Type 0} (n i from to : ℕ) (ms ys : List X) → Spanned i n (length ms) (Some (from, to)) → length ys ≡ length (between from to ms) → Back n i from to ms ys
lent_back n i from to ms ys (starts, ends, within) size = record {
  inside = le-leb (i * n + n) (length ms) (omega (arith, ends, within));
  many = omega (arith, mid_len from to ms within, starts, ends);
  only = record {
    long = put_long from to ms ys order within size;
    elsewhere = λ k m away. elim away [
      | inl less ↦ put_below from to ms ys order within size k m (omega (arith, starts))
      | inr more ↦ put_past from to ms ys order within size k m (omega (arith, ends))
    ];
  };
  now_is = ap₂ (λ a e. between a e (put_mid from (to - from) ms ys)) (sym starts) (sym ends) ∙ put_part from to ms ys order within size;
  was = ap₂ (λ a e. between a e ms) (sym starts) (sym ends);
}
  where
    order : from ≤ to
    order = omega arith

pub same_only : {X : Type 0} (n i : ℕ) (ms : List X) → OnlyPart n i ms ms
same_only n i ms = record { long = refl; elsewhere = λ k m away. refl }

-- a prepared part means the empty history
pub car_ready : {X : Type 0} (meaning : X → Meaning) (admitted : ℕ → ℕ → Bool) (rows : List Row) (i : ℕ) (ms ms' : List X) → Chained rows → CarPrepared meaning admitted rows i ms ms'
    → Admitted admitted rows → i * timed_rows rows + timed_rows rows ≤ length ms → Means meaning rows (part_at (timed_rows rows) i ms') []
car_ready meaning admitted rows i ms ms' chained car admits enough =
    let n = timed_rows rows in
    record {
      enough = omega (arith, enough, car.only.long, length-take (i * n + n - i * n) (drop (i * n) ms'), length-drop (i * n) ms');
      outlooks = λ p m lt timed.
          (car.whole (le-leb (i * n + n) (length ms) enough) p m lt timed).served (admits p lt timed)
          ∙ sym (ap₂ clean (row_window rows chained p lt timed).0 (row_window rows chained p lt timed).1)
          ∙ sym (outlook_fresh (formula_at (formulas rows) p));
    }

-- one car after another
module _ {X : Type 0} (meaning : X → Meaning) (admitted : ℕ → ℕ → Bool) (rows : List Row) (ms : List X) where
  pub prepared_none : Prepared meaning admitted rows 0 ms ms
  prepared_none = record { long = refl; ready = λ _ _ i lt. absurd (omega arith); past = λ k m le. refl }

  pub prepared_more : Chained rows → (n : ℕ) (xs ys : List X) → Prepared meaning admitted rows n ms xs → CarPrepared meaning admitted rows n xs ys → Prepared meaning admitted rows (n + 1) ms ys
  prepared_more chained n xs ys p c = record {
    long = c.only.long ∙ p.long;
    ready = λ admits enough i lt.
        let more : n * timed_rows rows + timed_rows rows ≤ length ms = omega (arith, enough, add-mul n 1 (timed_rows rows), one-mul (timed_rows rows)) in
        elim (cases_eq i n) [
          | inl is ↦ subst (λ j. Means meaning rows (part_at (timed_rows rows) j ys) []) (sym is) (car_ready meaning admitted rows n xs ys chained c admits (omega (arith, p.long, more)))
          | inr not ↦ subst (λ zs. Means meaning rows zs []) (sym (other_part (timed_rows rows) n i xs ys c.only not)) (p.ready admits (omega (arith, more)) i (omega arith))
        ];
    past = λ k m le.
        let more : n * timed_rows rows + timed_rows rows ≤ k = omega (arith, le, add-mul n 1 (timed_rows rows), one-mul (timed_rows rows)) in
        c.only.elsewhere k m (inr more) ∙ p.past k m (omega (arith, more));
  }
