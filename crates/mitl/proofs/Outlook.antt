-- The outlook that a history gives: how it moves as ticks are taken, and what it says of the ticks ahead. Assumes nothing.
use Rattle.std.proofs.Common.{◌≡◌, ℕ, suc, ◌+◌, ◌-◌, ◌<◌, ◌≤◌, Bool, true, false, not, ◌&&◌, ◌||◌, leb, ◌⊎◌, List, ◌++◌, length, Decides, sym, ap, ◌∙◌, ap₂, inl, inr, arith, length-append}
use mathlib.Core.Bool.{false≢true, not-not, and-true}
use Rattle.std.proofs.lemmas.Bool.{cases_lt, both_ways, not-true, not_from_false, and_from, and_parts, true_from_ne_false}
use Rattle.std.proofs.lemmas.Bool.Decides.{same_from_decides, not_from_Decides, Decides-like, Decides-not, Decides-and, Decides-or}
use Rattle.mitl.specs.Formulas.{Formula, once, always, since, sat}
use Rattle.mitl.specs.Outlook.{from, to, Counts, Marked, counts, reach, outlook}
use Rattle.mitl.proofs.Tests.{itself, no_from_none, decides_sat, decides_leb, decides_some, decides_within, decides_from}
use Rattle.mitl.proofs.Causal.{sat_append}
use Rattle.mitl.specs.Windows.{Window, all_below}
use Rattle.mitl.specs.Memory.{meets, taken, ahead}

never : Decides false ⊥
never = (λ e. false≢true e, λ f. absurd f)

pub decides_counts : (f : Formula) (h : List ℕ) (t u : ℕ) → Decides (counts f h t u) (Counts f h t u)
decides_counts (once f a b) h t u = decides_sat f h u
decides_counts (always f a b) h t u = Decides-not _ (decides_sat f h u)
decides_counts (since f g a b) h t u =
    Decides-and _ _ (decides_sat g h u) (decides_from _ _ (decides_sat f h) u t)
decides_counts f h t u = never

pub decides_outlook : (f : Formula) (h : List ℕ) (d : ℕ) → Decides (outlook f h d) (Marked f h d)
decides_outlook f h d =
    decides_within _ _ (decides_counts f h (length h)) (from f) (to f) (length h + d) (length h)

module _ (a b : ℕ) where
  abbrev Reach : (ℕ → Bool) → ℕ → ℕ → Type 0
  Reach c t d = (u : ℕ) × (u < t) × Window a b (t + d) u × (c u ≡ true)

  decides_reach : (c : ℕ → Bool) (t d : ℕ) → Decides (reach a b c t d) (Reach c t d)
  decides_reach c t d =
      decides_within _ _ (λ u. itself (c u)) a b (t + d) t

  decides_meets : (n d : ℕ) → Decides (meets a b n d) ((i : ℕ) × (i < n) × ((a ≤ d + suc i) × (d + suc i ≤ b)))
  decides_meets n d = decides_some _ _ (λ i. Decides-and _ _ (decides_leb a (d + suc i)) (decides_leb (d + suc i) b)) n

  pub reach_more : (c c' : ℕ → Bool) (t n : ℕ) (v : Bool) → ((u : ℕ) → u < t → c' u ≡ c u) → ((u : ℕ) → t ≤ u → u < t + n → c' u ≡ v)
      → (d : ℕ) → reach a b c' (t + n) d ≡ taken a b v n (reach a b c t) d
  reach_more c c' t n v old new d =
      same_from_decides _ _ (decides_reach c' (t + n) d)
      (Decides-like _ back forth (Decides-or _ _ (decides_reach c t (d + n)) (Decides-and _ _ (itself v) (decides_meets n d))))
    where
      back : Reach c t (d + n) ⊎ ((v ≡ true) × ((i : ℕ) × (i < n) × ((a ≤ d + suc i) × (d + suc i ≤ b)))) → Reach c' (t + n) d
      back (inl r) = (r.0, omega (arith, r.1), omega (arith, r.2), old r.0 r.1 ∙ r.3)
      back (inr r) =
          let i = r.1.0 in
          let lt = r.1.1 in
          let w = r.1.2 in
          (t + n - suc i, omega arith, omega arith, new (t + n - suc i) (omega arith) (omega arith) ∙ r.0)

      forth : Reach c' (t + n) d → Reach c t (d + n) ⊎ ((v ≡ true) × ((i : ℕ) × (i < n) × ((a ≤ d + suc i) × (d + suc i ≤ b))))
      forth r =
          let u = r.0 in
          let lt = r.1 in
          let w = r.2 in
          elim (cases_lt u t) [
            | inl o ↦ inl (u, o, omega arith, sym (old u o) ∙ r.3)
            | inr o ↦ inr (sym (new u o lt) ∙ r.3, (t + n - suc u, omega arith, omega arith))
          ]

  abbrev Ahead : (ℕ → Bool) → ℕ → Type 0
  Ahead c t = (u : ℕ) × Window a b t u × (c u ≡ true)

  pub decides_ahead : (c c' : ℕ → Bool) (t d : ℕ) (v : Bool) → a ≤ b → ((u : ℕ) → u < t → c' u ≡ c u) → ((u : ℕ) → t ≤ u → u ≤ t + d → c' u ≡ v)
      → Decides (ahead a v (reach a b c t) d) (Ahead c' (t + d))
  decides_ahead c c' t d v ordered old new =
      Decides-like _ back forth (Decides-or _ _ (decides_reach c t d) (Decides-and _ _ (itself v) (decides_leb a d)))
    where
      back : Reach c t d ⊎ ((v ≡ true) × (a ≤ d)) → Ahead c' (t + d)
      back (inl r) = (r.0, r.2, old r.0 r.1 ∙ r.3)
      back (inr r) = let near = r.1 in (t + d - a, omega arith, new (t + d - a) (omega arith) (omega arith) ∙ r.0)

      forth : Ahead c' (t + d) → Reach c t d ⊎ ((v ≡ true) × (a ≤ d))
      forth r =
          let u = r.0 in
          let w = r.1 in
          elim (cases_lt u t) [ inl o ↦ inl (u, o, w, sym (old u o) ∙ r.2) | inr o ↦ inr (sym (new u o (omega arith)) ∙ r.2, omega arith) ]

-- p holds from u on, below n
abbrev on_from : (ℕ → Bool) → ℕ → ℕ → Bool
on_from p u n = all_below (λ s. not (leb u s) || p s) n

decides_on_from : (p : ℕ → Bool) (u n : ℕ) → Decides (on_from p u n) ((s : ℕ) → u ≤ s → s < n → p s ≡ true)
decides_on_from p u n = decides_from _ _ (λ s. itself (p s)) u n

module _ (p p' : ℕ → Bool) (t n : ℕ) (more : t ≤ n) (old : (s : ℕ) → s < t → p' s ≡ p s) (new : (s : ℕ) → t ≤ s → s < n → p' s ≡ true) where
  on_from_old : (u : ℕ) → on_from p' u n ≡ on_from p u t
  on_from_old u =
      same_from_decides _ _
      (Decides-like _
      (λ r s le lt. sym (old s lt) ∙ r s le (omega arith))
      (λ r s le lt. elim (cases_lt s t) [ inl o ↦ old s o ∙ r s le o | inr o ↦ new s o lt ])
      (decides_on_from p' u n))
      (decides_on_from p u t)

  on_from_new : (u : ℕ) → t ≤ u → on_from p' u n ≡ true
  on_from_new u after = (decides_on_from p' u n).1 (λ s le lt. new s (omega arith) lt)

module _ (h x : List ℕ) where
  abbrev New : ℕ → Type 0
  New u = (length h ≤ u) × (u < length h + length x)

  module _ (f : Formula) (a b : ℕ) (v : Bool) where
    pub once_takes : ((u : ℕ) → New u → sat f (h ++ x) u ≡ v) → (d : ℕ) → outlook (once f a b) (h ++ x) d ≡ taken a b v (length x) (outlook (once f a b) h) d
    once_takes new d =
        rw length-append (reach_more a b (sat f h) (sat f (h ++ x)) (length h) (length x) v (sat_append h x f) (λ u low high. new u (low, high)) d)

    pub always_takes : ((u : ℕ) → New u → sat f (h ++ x) u ≡ not v) → (d : ℕ) → outlook (always f a b) (h ++ x) d ≡ taken a b v (length x) (outlook (always f a b) h) d
    always_takes new d =
        rw length-append
        (reach_more a b (λ u. not (sat f h u)) (λ u. not (sat f (h ++ x) u)) (length h) (length x) v
        (λ u lt. ap not (sat_append h x f u lt)) (λ u low high. ap not (new u (low, high)) ∙ not-not v) d)

    pub once_ahead : a ≤ b → (d : ℕ) → ((u : ℕ) → length h ≤ u → u ≤ length h + d → sat f (h ++ x) u ≡ v) → sat (once f a b) (h ++ x) (length h + d) ≡ ahead a v (outlook (once f a b) h) d
    once_ahead ordered d new =
        same_from_decides _ _
        (Decides-like _
        (λ r. (r.0, r.1, (decides_sat f (h ++ x) r.0).1 r.2)) (λ r. (r.0, r.1, (decides_sat f (h ++ x) r.0).0 r.2))
        (decides_sat (once f a b) (h ++ x) (length h + d)))
        (decides_ahead a b (sat f h) (sat f (h ++ x)) (length h) d v ordered (sat_append h x f) new)

    pub always_ahead : a ≤ b → (d : ℕ) → ((u : ℕ) → length h ≤ u → u ≤ length h + d → sat f (h ++ x) u ≡ not v) → sat (always f a b) (h ++ x) (length h + d) ≡ not (ahead a v (outlook (always f a b) h) d)
    always_ahead ordered d new =
        same_from_decides _ _
        (Decides-like _
        (λ r e. both_ways (sat f (h ++ x) e.0) (not-true _ e.2) ((decides_sat f (h ++ x) e.0).1 (r e.0 e.1)))
        (λ none u w. (decides_sat f (h ++ x) u).0 (true_from_ne_false _ (λ off. none (u, w, not_from_false _ off))))
        (decides_sat (always f a b) (h ++ x) (length h + d)))
        (Decides-not _
        (decides_ahead a b (λ u. not (sat f h u)) (λ u. not (sat f (h ++ x) u)) (length h) d v ordered
        (λ u lt. ap not (sat_append h x f u lt)) (λ u low high. ap not (new u low high) ∙ not-not v)))

  module _ (f g : Formula) (a b : ℕ) (v : Bool) where
    -- while the left operand is on, the memory takes the right one
    pub since_takes : ((u : ℕ) → New u → sat f (h ++ x) u ≡ true) → ((u : ℕ) → New u → sat g (h ++ x) u ≡ v)
        → (d : ℕ) → outlook (since f g a b) (h ++ x) d ≡ taken a b v (length x) (outlook (since f g a b) h) d
    since_takes held new d =
        rw length-append
        (reach_more a b (counts (since f g a b) h (length h)) (counts (since f g a b) (h ++ x) (length h + length x)) (length h) (length x) v
        (λ u lt. ap₂ ◌&&◌ (sat_append h x g u lt) (on_from_old (sat f h) (sat f (h ++ x)) (length h) (length h + length x) (omega arith) (sat_append h x f) (λ s low high. held s (low, high)) u))
        (λ u low high. ap₂ ◌&&◌ (new u (low, high)) (on_from_new (sat f h) (sat f (h ++ x)) (length h) (length h + length x) (omega arith) (sat_append h x f) (λ s low high. held s (low, high)) u low) ∙ and-true v)
        d)

    pub since_ahead : a ≤ b → (d : ℕ) → ((u : ℕ) → length h ≤ u → u ≤ length h + d → sat f (h ++ x) u ≡ true) → ((u : ℕ) → length h ≤ u → u ≤ length h + d → sat g (h ++ x) u ≡ v)
        → sat (since f g a b) (h ++ x) (length h + d) ≡ ahead a v (outlook (since f g a b) h) d
    since_ahead ordered d held new =
        same_from_decides _ _
        (Decides-like _
        (λ r. (r.0, r.1, and_from _ _ ((decides_sat g (h ++ x) r.0).1 r.2) ((decides_on_from (sat f (h ++ x)) r.0 (suc (length h + d))).1 (λ s le lt. (decides_sat f (h ++ x) s).1 (r.3 s le (omega arith))))))
        (λ r.
        let e = and_parts _ _ r.2 in
        (r.0, r.1, (decides_sat g (h ++ x) r.0).0 e.0, λ s low high. (decides_sat f (h ++ x) s).0 ((decides_on_from (sat f (h ++ x)) r.0 (suc (length h + d))).0 e.1 s low (omega arith))))
        (decides_sat (since f g a b) (h ++ x) (length h + d)))
        (decides_ahead a b (counts (since f g a b) h (length h)) (counts (since f g a b) (h ++ x) (suc (length h + d))) (length h) d v ordered
        (λ u lt. ap₂ ◌&&◌ (sat_append h x g u lt) (on_from_old (sat f h) (sat f (h ++ x)) (length h) (suc (length h + d)) (omega arith) (sat_append h x f) (λ s low high. held s low (omega arith)) u))
        (λ u low high. ap₂ ◌&&◌ (new u low high) (on_from_new (sat f h) (sat f (h ++ x)) (length h) (suc (length h + d)) (omega arith) (sat_append h x f) (λ s low high. held s low (omega arith)) u low) ∙ and-true v))

-- where the left operand is off at the last tick taken, nothing is in reach
pub since_clears : (f g : Formula) (a b : ℕ) (h : List ℕ) (s : ℕ) → length h ≡ s + 1 → sat f h s ≡ false → (d : ℕ) → outlook (since f g a b) h d ≡ false
since_clears f g a b h s last off d =
    no_from_none _ (decides_outlook (since f g a b) h d) (λ r. not_from_Decides _ (decides_sat f h s) off (r.3.1 s (omega (arith, r.1)) (omega arith)))

-- and the verdict is no
pub since_off : (f g : Formula) (a b : ℕ) (h : List ℕ) (t : ℕ) → sat f h t ≡ false → sat (since f g a b) h t ≡ false
since_off f g a b h t off =
    no_from_none _ (decides_sat (since f g a b) h t) (λ r. not_from_Decides _ (decides_sat f h t) off (r.3 t (omega (arith, r.1)) (omega arith)))
