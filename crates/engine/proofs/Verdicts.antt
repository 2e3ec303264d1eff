-- The verdict words of ticks ahead. Assumes nothing.
use Rattle.std.proofs.Common.{◌≡◌, ℕ, suc, ◌+◌, ◌-◌, ◌<◌, ◌≤◌, Bool, ◌&&◌, List, [], ◌∷◌, ◌++◌, map, length, get_or, replicate, sym, refl, ap, ◌∙◌, ap₂, inl, inr, arith, length-append}
use lib.ListN.{length-replicate}
use Rattle.std.specs.List.{range_with_len}
use Rattle.std.proofs.lemmas.List.FromFn.{length-map-range_with_len, get_or-map-range_with_len}
use Rattle.std.proofs.lemmas.List.{append_assoc, get_or_append_left, get_or-append_right, get_or-replicate, ext_get_or, replicate-append-replicate}
use Rattle.std.proofs.lemmas.Bool.{cases_lt}
use Rattle.mitl.specs.declared.Row.{Row}
use Rattle.mitl.specs.Formulas.{bit}
use Rattle.mitl.specs.Rows.{row_at, read, is_rule, verdict}
use Rattle.mitl.specs.Windows.{some_below}
use Rattle.mitl.proofs.Causal.{verdict_append}
use Rattle.mitl.proofs.Rules.{verdict_only}
use Rattle.engine.specs.Due.{coming}
use Rattle.engine.specs.Held.{coming_first}
use Rattle.plan.proofs.Below.{some_same}

-- a word whose bits are the rules, read as v, is the verdict
pub verdict_is : (rows : List Row) (h : List ℕ) (t z : ℕ) (v : ℕ → Bool) → z < 65536
    → ((i : ℕ) → bit i z ≡ some_below (λ k. is_rule i (row_at rows k) && v k) (length rows))
    → ((k : ℕ) → k < length rows → read rows h k t ≡ v k)
    → verdict rows h t ≡ z
verdict_is rows h t z v small bits same =
    sym (verdict_only rows h t z small (λ i lt. bits i ∙ sym (some_same _ _ (length rows) (λ k low. ap (λ b. is_rule i (row_at rows k) && b) (same k low)))))

same_counted : (f g : ℕ → ℕ) (t n : ℕ) → ((u : ℕ) → t ≤ u → u < t + n → f u ≡ g u) → map f (range_with_len t n) ≡ map g (range_with_len t n)
same_counted f g t n same =
    ext_get_or 0 _ _ (length-map-range_with_len f t n ∙ sym (length-map-range_with_len g t n))
    (λ i lt.
    let low : i < n = simp length-map-range_with_len at lt in
    get_or-map-range_with_len f t n i (t + i) 0 low refl ∙ same (t + i) (omega arith) (omega arith) ∙ sym (get_or-map-range_with_len g t n i (t + i) 0 low refl))

counted_append : (f : ℕ → ℕ) (t n m : ℕ) → map f (range_with_len t (n + m)) ≡ map f (range_with_len t n) ++ map f (range_with_len (t + n) m)
counted_append f t n m = ext_get_or 0 _ _ size at
  where
    front : length (map f (range_with_len t n)) ≡ n
    front = length-map-range_with_len f t n

    size : length (map f (range_with_len t (n + m))) ≡ length (map f (range_with_len t n) ++ map f (range_with_len (t + n) m))
    size = simp (length-append, length-map-range_with_len)

    at : (i : ℕ) → i < length (map f (range_with_len t (n + m))) → get_or (map f (range_with_len t (n + m))) i 0 ≡ get_or (map f (range_with_len t n) ++ map f (range_with_len (t + n) m)) i 0
    at i lt =
        let within : i < n + m = simp length-map-range_with_len at lt in
        let left = get_or-map-range_with_len f t (n + m) i (t + i) 0 within refl in
        elim (cases_lt i n) [
          | inl less ↦ left ∙ sym (get_or_append_left (map f (range_with_len t n)) _ 0 i (omega (arith, front)) ∙ get_or-map-range_with_len f t n i (t + i) 0 less refl)
          | inr more ↦
              left
              ∙ sym (get_or-append_right (map f (range_with_len t n)) (map f (range_with_len (t + n) m)) n i 0 front more ∙ get_or-map-range_with_len f (t + n) m (i - n) (t + i) 0 (omega arith) (omega arith))
        ]

counted_alike : (f : ℕ → ℕ) (z t n : ℕ) → ((u : ℕ) → t ≤ u → u < t + n → f u ≡ z) → map f (range_with_len t n) ≡ replicate n z
counted_alike f z t n same =
    ext_get_or 0 _ _ (length-map-range_with_len f t n ∙ sym (length-replicate n z))
    (λ i lt.
    let low : i < n = simp length-map-range_with_len at lt in
    get_or-map-range_with_len f t n i (t + i) 0 low refl ∙ same (t + i) (omega arith) (omega arith) ∙ sym (get_or-replicate n i z 0 low))

module _ (rows : List Row) (h : List ℕ) (w : ℕ) where
  pub longer : (n m : ℕ) → (h ++ replicate n w) ++ replicate m w ≡ h ++ replicate (n + m) w
  longer n m = append_assoc h (replicate n w) (replicate m w) ∙ ap (λ x. h ++ x) (replicate-append-replicate n m w)

  pub size_after : (n : ℕ) → length (h ++ replicate n w) ≡ length h + n
  size_after n = length-append h (replicate n w) ∙ ap (λ k. length h + k) (length-replicate n w)

  pub coming_length : (n : ℕ) → length (coming rows h n w) ≡ n
  coming_length n = length-map-range_with_len (verdict rows (h ++ replicate n w)) (length h) n

  -- n ticks and then m
  pub coming_more : (n m : ℕ) → coming rows h (n + m) w ≡ coming rows h n w ++ coming rows (h ++ replicate n w) m w
  coming_more n m =
      ap (λ x. map (verdict rows x) (range_with_len (length h) (n + m))) (sym (longer n m))
      ∙ counted_append (verdict rows ((h ++ replicate n w) ++ replicate m w)) (length h) n m
      ∙ ap₂ ◌++◌
      (same_counted _ _ (length h) n (λ u low high. verdict_append rows (h ++ replicate n w) (replicate m w) u (omega (arith, size_after n))))
      (ap (λ t. map (verdict rows ((h ++ replicate n w) ++ replicate m w)) (range_with_len t m)) (sym (size_after n)))

  -- one tick, and the others
  pub coming_at_once : (n : ℕ) → coming rows h (suc n) w ≡ coming_first rows h w ∷ coming rows (h ++ (w ∷ [])) n w
  coming_at_once n = let e : suc n ≡ 1 + n = omega arith in ap (λ k. coming rows h k w) e ∙ coming_more 1 n

  pub coming_alike : (n z : ℕ) → ((u : ℕ) → length h ≤ u → u < length h + n → verdict rows (h ++ replicate n w) u ≡ z) → coming rows h n w ≡ replicate n z
  coming_alike n z same = counted_alike (verdict rows (h ++ replicate n w)) z (length h) n same
