-- The verdicts of a whole history, run by run and note by note. Assumes nothing.
use Rattle.std.proofs.Common.{◌≡◌, ℕ, ◌+◌, ◌-◌, ◌<◌, ◌≤◌, Bool, true, false, cond, List, [], ◌∷◌, ◌++◌, map, length, get_or, take, replicate, sym, refl, ap, ◌∙◌, inl, inr, arith, length-append, length-take}
use lib.ListN.{length-replicate}
use Rattle.std.specs.List.{range_with_len}
use Rattle.std.proofs.lemmas.List.FromFn.{length-map-range_with_len, get_or-map-range_with_len, take-map-range_with_len, fill_by_all}
use Rattle.std.proofs.lemmas.List.{append_assoc, append-nil, get_or_append_left, get_or-append_right, replicate-append-replicate}
use Rattle.std.proofs.lemmas.Bool.{cases_lt, cond-true, cond_both}
use Rattle.mitl.specs.declared.Row.{Row}
use Rattle.mitl.specs.Rows.{verdict}
use Rattle.mitl.specs.Runs.{Run, expanded, spelt, runs, ticks}
use Rattle.mitl.proofs.Causal.{verdict_append}
use Rattle.mitl.proofs.Runs.{runs_cut, expanded_take, length_expanded}
use Rattle.record.specs.declared.Car.{Car}
use Rattle.record.specs.Cars.{same_car}
use Rattle.record.proofs.Cars.{same_self, same_is}
use Rattle.engine.specs.Due.{coming, due}
use Rattle.engine.specs.Judged.{note}
use Rattle.book.specs.Book.{with_car, noted}

-- the verdicts of a whole history
abbrev pub spoken : List Row → List ℕ → List ℕ
spoken rows h = map (verdict rows h) (range_with_len 0 (length h))

counts_join : (g g' g'' : ℕ → ℕ) (t m : ℕ) → ((i : ℕ) → i < t → g i ≡ g'' i) → ((i : ℕ) → t ≤ i → i < t + m → g' i ≡ g'' i)
    → map g (range_with_len 0 t) ++ map g' (range_with_len t m) ≡ map g'' (range_with_len 0 (t + m))
counts_join g g' g'' t m old new = fill_by_all g'' _ (t + m) 0 (simp (length-append, length-map-range_with_len)) at
  where
    front : length (map g (range_with_len 0 t)) ≡ t
    front = length-map-range_with_len g 0 t

    at : (i : ℕ) → i < t + m → get_or (map g (range_with_len 0 t) ++ map g' (range_with_len t m)) i 0 ≡ g'' i
    at i lt = elim (cases_lt i t) [
      | inl less ↦ get_or_append_left _ (map g' (range_with_len t m)) 0 i (omega (arith, front)) ∙ get_or-map-range_with_len g 0 t i i 0 less (omega arith) ∙ old i less
      | inr more ↦
          get_or-append_right (map g (range_with_len 0 t)) (map g' (range_with_len t m)) t i 0 front more ∙ get_or-map-range_with_len g' t m (i - t) i 0 (omega arith) (omega arith)
          ∙ new i more lt
    ]

module _ (rows : List Row) (h : List ℕ) (n w places : ℕ) where
  abbrev all_words : List ℕ
  all_words = coming rows h n w

  abbrev first_runs : List Run
  first_runs = due rows h n w places

  abbrev m : ℕ
  m = ticks first_runs

  written_words : expanded first_runs ≡ take m all_words
  written_words = expanded_take places (runs all_words) ∙ ap (take m) (runs_cut all_words).whole

  few_enough : m ≤ n
  few_enough =
      omega (arith, sym (length_expanded first_runs) ∙ ap length written_words ∙ length-take m all_words, length-map-range_with_len (verdict rows (h ++ replicate n w)) (length h) n)

  -- what the runs that are due add to the verdicts spoken
  pub spoken_more : spoken rows h ++ expanded first_runs ≡ spoken rows (h ++ replicate m w)
  spoken_more =
      let size : length (h ++ replicate m w) ≡ length h + m = length-append h (replicate m w) ∙ ap (λ k. length h + k) (length-replicate m w) in
      let longer : h ++ replicate n w ≡ (h ++ replicate m w) ++ replicate (n - m) w =
      ap (λ k. h ++ replicate k w) (omega (arith, few_enough)) ∙ ap (λ x. h ++ x) (sym (replicate-append-replicate m (n - m) w))
      ∙ sym (append_assoc h (replicate m w) (replicate (n - m) w)) in
      ap (λ x. spoken rows h ++ x) (written_words ∙ take-map-range_with_len (verdict rows (h ++ replicate n w)) (length h) n m few_enough)
      ∙ counts_join (verdict rows h) (verdict rows (h ++ replicate n w)) (verdict rows (h ++ replicate m w)) (length h) m
      (λ i lt. sym (verdict_append rows h (replicate m w) i lt))
      (λ i low high. ap (λ x. verdict rows x i) longer ∙ verdict_append rows (h ++ replicate m w) (replicate (n - m) w) i (omega (arith, size)))
      ∙ ap (λ k. map (verdict rows (h ++ replicate m w)) (range_with_len 0 k)) (sym size)

with_car_same : {X : Type 0} (c : Car) (x : X) (f : Car → X) → with_car c x f c ≡ x
with_car_same c x f = cond-true (same_car c c) x (f c) (same_self c)

cond_over : {X : Type 0} (b : Bool) (x y z : X) → cond b x (cond b y z) ≡ cond b x z
cond_over true x y z = refl
cond_over false x y z = refl

-- the notes of one car add to what was written for it, and for no other
pub noted_is : (c : Car) (rs : List Run) (f : Car → List ℕ) (d : Car) → noted f (map (note c) rs) d ≡ with_car c (f c ++ expanded rs) f d
noted_is c [] f d = cond_both (same_car d c) _ _ (λ x. f d ≡ x) (λ e. ap f (same_is d c e) ∙ sym (append-nil (f c))) (λ _. refl)
noted_is c (r ∷ rs) f d =
    let g : Car → List ℕ = with_car c (f c ++ spelt r) f in
    noted_is c rs g d
    ∙ cond_over (same_car d c) _ _ _
    ∙ ap (λ x. with_car c x f d)
    (ap (λ x. x ++ expanded rs) (with_car_same c (f c ++ spelt r) f) ∙ append_assoc (f c) (spelt r) (expanded rs))

pub cond_map : {X Y : Type 0} (G : Y → X) (b : Bool) {x x' : X} {y y' : Y} → x ≡ G y → x' ≡ G y' → cond b x x' ≡ G (cond b y y')
cond_map G true p q = p
cond_map G false p q = q
