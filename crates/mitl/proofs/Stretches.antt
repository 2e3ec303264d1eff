-- How many stretches of yes an outlook can have. Assumes nothing.
use Rattle.std.proofs.Common.{◌≡◌, ℕ, zero, suc, ◌+◌, ◌-◌, ◌*◌, ◌/◌, ◌<◌, ◌≤◌, Bool, true, false, cond, not, ◌&&◌, ◌⊎◌, List, length, sym, refl, ap, ◌∙◌, subst, ap₂, inl, inr, le-div_iff_mul-le, arith}
use Rattle.std.proofs.lemmas.Bool.{cases_lt, and_parts, not-true, both_ways}
use Rattle.mitl.specs.Formulas.{Formula}
use Rattle.mitl.specs.Outlook.{from, to, Marked, outlook}
use Rattle.mitl.proofs.Outlook.{decides_outlook}
use Rattle.mitl.specs.Memory.{stretches, most_stretches_lem}
use Rattle.mitl.specs.Laws.{BoundsStretches}

-- a stretch ends at d
abbrev ends : (ℕ → Bool) → ℕ → Bool
ends mark d = mark d && not (mark (suc d))

quotient : (s m x n : ℕ) → 0 < m → x < n → m * s ≤ x + m → s ≤ 1 + (n - 1) / m
quotient zero m x n pos lt le = omega arith
quotient (suc k) m x n pos lt le =
    let fits : k ≤ (n - 1) / m = (le-div_iff_mul-le pos).1 (omega arith) in
    omega arith

module _ (mark : ℕ → Bool) (m : ℕ) (apart : (d e : ℕ) → d < e → ends mark d ≡ true → ends mark e ≡ true → d + m ≤ e) where
  -- the last end below n, and how far off it must be
  abbrev Last : ℕ → Type 0
  Last n = (stretches mark n ≡ 0) ⊎ ((p : ℕ) × (p < n) × (ends mark p ≡ true) × (m * stretches mark n ≤ p + m))

  last_end : (n : ℕ) → Last n
  last_end zero = inl refl
  last_end (suc n) = step (ends mark n) refl (last_end n)
    where
      step : (e : Bool) → ends mark n ≡ e → Last n → Last (suc n)
      step true e (inl none) = let one : stretches mark (suc n) ≡ 1 = ap (λ x. cond x 1 0 + stretches mark n) e ∙ omega arith in inr (n, omega arith, e, rw one (omega arith))
      step true e (inr r) =
          let one : stretches mark (suc n) ≡ 1 + stretches mark n = ap (λ x. cond x 1 0 + stretches mark n) e in
          let gap = apart r.0 n r.1 r.2 e in
          inr (n, omega arith, e, rw one (omega (arith, r.3)))
      step false e (inl none) = inl (ap (λ x. cond x 1 0 + stretches mark n) e ∙ omega arith)
      step false e (inr r) =
          let same : stretches mark (suc n) ≡ 0 + stretches mark n = ap (λ x. cond x 1 0 + stretches mark n) e in
          inr (r.0, omega (arith, r.1), r.2, rw same (omega (arith, r.3)))

  pub few_stretches : (n : ℕ) → 0 < m → stretches mark n ≤ 1 + (n - 1) / m
  few_stretches n pos = elim (last_end n) [ inl none ↦ omega arith | inr r ↦ quotient (stretches mark n) m r.0 n pos r.1 r.3 ]

-- two ends of an outlook's stretches are more than the window and one no apart
pub ends_apart : (f : Formula) (h : List ℕ) (d e : ℕ) → d < e → ends (outlook f h) d ≡ true → ends (outlook f h) e ≡ true → d + (to f - from f + 2) ≤ e
ends_apart f h d e lt first second =
    elim (cases_lt e (d + (to f - from f + 2))) [ inl near ↦ absurd (clash near) | inr far ↦ far ]
  where
    unmarked : (k : ℕ) → ends (outlook f h) k ≡ true → Marked f h (suc k) → ⊥
    unmarked k last m =
        both_ways (outlook f h (suc k)) (not-true _ (and_parts (outlook f h k) (not (outlook f h (suc k))) last).1) ((decides_outlook f h (suc k)).1 m)

    clash : e < d + (to f - from f + 2) → ⊥
    clash near =
        let r = (decides_outlook f h e).0 (and_parts (outlook f h e) (not (outlook f h (suc e))) second).0 in
        let u = r.0 in
        let w = r.2 in
        elim (cases_lt (length h + e) (u + to f)) [
          | inl more ↦ unmarked e second (u, r.1, omega arith, r.3)
          | inr exact ↦ unmarked d first (u, r.1, omega arith, r.3)
        ]

pub bounded : (f : Formula) (h : List ℕ) → stretches (outlook f h) (to f) ≤ most_stretches_lem (from f) (to f)
bounded f h = few_stretches (outlook f h) (to f - from f + 2) (ends_apart f h) (to f) (omega arith)

pub bounds : (a b n : ℕ) → n ≡ most_stretches_lem a b → BoundsStretches a b n
bounds a b n is f h start end =
    subst (λ m. stretches (outlook f h) b ≤ m) (ap₂ most_stretches_lem start end ∙ sym is) (subst (λ m. stretches (outlook f h) m ≤ most_stretches_lem (from f) (to f)) end (bounded f h))
