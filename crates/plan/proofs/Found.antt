-- The place of a number in a list. Assumes nothing.
use Rattle.std.proofs.Common.{◌≡◌, ℕ, zero, suc, ◌+◌, ◌<◌, false, eqb, List, [], ◌∷◌, length, get_or, Some, None, ◌∙◌, sym, inl, inr, arith}
use Rattle.std.proofs.lemmas.Bool.{cases_Bool, cond-true, cond-false, eqb-true, eqb-false}
use Rattle.std.proofs.lemmas.Iterator.Adapters.{position_from-zero}
use Rattle.std.proofs.lemmas.List.Quantifiers.{position-Some}
use Rattle.plan.specs.Places.{place_from, place_among_lem}

-- the place is one of the list, and holds the number
pub found_place : (ms : List ℕ) (n k : ℕ) → place_among_lem ms n ≡ Some k → (k < length ms) × (get_or ms k 0 ≡ n)
found_place ms n k e =
    let w = position-Some (λ m. eqb m n) ms k 0 (position_from-zero (λ m. eqb m n) ms ∙ e) in
    (w.0, eqb-true (get_or ms k 0) n w.1)

-- a number that has no place is not in the list
lost_first : (i m : ℕ) (ms : List ℕ) (n : ℕ) → place_from i (m ∷ ms) n ≡ None → (eqb m n ≡ false) × (place_from (i + 1) ms n ≡ None)
lost_first i m ms n e =
    elim (cases_Bool (eqb m n)) [
      | inl here ↦ let some = sym (cond-true (eqb m n) (Some i) (place_from (i + 1) ms n) here) ∙ e in cc
      | inr elsewhere ↦ (elsewhere, sym (cond-false (eqb m n) (Some i) (place_from (i + 1) ms n) elsewhere) ∙ e)
    ]

pub lost_from : (i : ℕ) (ms : List ℕ) (n : ℕ) → place_from i ms n ≡ None → (j : ℕ) → j < length ms → get_or ms j 0 ≡ n → ⊥
lost_from i [] n e j h = omega arith
lost_from i (m ∷ ms) n e zero h = eqb-false m n (lost_first i m ms n e).0
lost_from i (m ∷ ms) n e (suc j) h = lost_from (i + 1) ms n (lost_first i m ms n e).1 j (omega arith)
