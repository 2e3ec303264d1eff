-- The marks have as many stretches as there are episodes. Assumes nothing.
use Rattle.std.proofs.Common.{◌≡◌, ℕ, zero, suc, ◌+◌, ◌-◌, ◌<◌, ◌≤◌, Bool, true, false, cond, not, ◌&&◌, ◌||◌, ltb, leb, List, [], ◌∷◌, length, refl, ap, ◌∙◌, ap₂, inl, inr, arith}
use Rattle.std.proofs.lemmas.Bool.{false≢true, or_cases, and_parts, leb-true, ltb-true, le-leb}
use Rattle.std.proofs.lemmas.Bool.Decides.{nat_tests}
use Rattle.mitl.specs.Memory.{stretches}
use Rattle.clock_pairs.specs.declared.Episode.{Episode}
use Rattle.clock_pairs.specs.Episodes.{covers, reached}
use Rattle.clock_pairs.proofs.Order.{Apart}

module _ (f g : ℕ → Bool) (clear : (d e : ℕ) → f d ≡ true → g e ≡ true → suc e < d) where
  one_end : (d : ℕ) → cond ((f d || g d) && not (f (suc d) || g (suc d))) 1 0 ≡ cond (f d && not (f (suc d))) 1 0 + cond (g d && not (g (suc d))) 1 0
  one_end d = ends (f d) (g d) (f (suc d)) (g (suc d)) (λ p q. omega (arith, clear d d p q)) (λ p q. omega (arith, clear d (suc d) p q)) (λ p q. omega (arith, clear (suc d) d p q))
    where
      ends : (x y x' y' : Bool) → (x ≡ true → y ≡ true → ⊥) → (x ≡ true → y' ≡ true → ⊥) → (x' ≡ true → y ≡ true → ⊥)
          → cond ((x || y) && not (x' || y')) 1 0 ≡ cond (x && not x') 1 0 + cond (y && not y') 1 0
      ends true true x' y' p q r = absurd (p refl refl)
      ends true false x' true p q r = absurd (q refl refl)
      ends true false true false p q r = refl
      ends true false false false p q r = refl
      ends false true true y' p q r = absurd (r refl refl)
      ends false true false true p q r = refl
      ends false true false false p q r = refl
      ends false false x' y' p q r = refl

  -- two sets of marks that do not touch have the stretches of both
  both_stretches : (n : ℕ) → stretches (λ d. f d || g d) n ≡ stretches f n + stretches g n
  both_stretches zero = refl
  both_stretches (suc n) = let rest = both_stretches n in let here = one_end n in omega arith

no_stretch : (n : ℕ) → stretches (λ _. false) n ≡ 0
no_stretch zero = refl
no_stretch (suc n) = rw (no_stretch n)

module _ (a b : ℕ) (upto : a ≤ b) where
  one_stretch : (e : Episode) → e.fall < e.rise → e.rise ≤ b → (n : ℕ) → stretches (covers a b e) n ≡ cond (leb (b - e.fall) n) 1 0
  one_stretch e fell le zero = grind (arith, nat_tests)
  one_stretch e fell le (suc n) = rw (one_stretch e fell le n) (grind (arith, nat_tests))

  reached_low : (low : ℕ) (es : List Episode) → Apart a b low es → (d : ℕ) → reached a b es d ≡ true → d + low < b
  reached_low low [] p d h = absurd (false≢true h)
  reached_low low (e ∷ es) p d h =
      elim (or_cases (covers a b e d) (reached a b es d) h) [
        | inl here ↦ omega (arith, p.0, ltb-true _ _ (and_parts (leb a (d + e.rise)) (ltb (d + e.fall) b) here).1)
        | inr there ↦ omega (arith, p.0, p.1, reached_low (e.rise + (b - a) + 1) es p.3 d there)
      ]

  pub count_is : (low : ℕ) (es : List Episode) → Apart a b low es → stretches (reached a b es) b ≡ length es
  count_is low [] p = no_stretch b
  count_is low (e ∷ es) p =
      both_stretches (covers a b e) (reached a b es) (λ d k first second. omega (arith, leb-true _ _ (and_parts (leb a (d + e.rise)) (ltb (d + e.fall) b) first).0, reached_low (e.rise + (b - a) + 1) es p.3 k second)) b
      ∙ ap₂ ◌+◌ (one_stretch e p.1 p.2 b ∙ ap (λ t. cond t 1 0) (le-leb _ _ (omega arith))) (count_is (e.rise + (b - a) + 1) es p.3) ∙ omega arith
