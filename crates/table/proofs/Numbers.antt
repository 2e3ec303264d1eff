-- The first number with a property. Assumes nothing.
use Rattle.std.proofs.Common.{◌≡◌, ℕ, zero, suc, ◌+◌, ◌<◌, ◌≤◌, Bool, true, false, inl, inr, arith}
use Rattle.std.proofs.lemmas.Bool.{cases_eq, cases_lt, both_ways}
use Rattle.std.proofs.lemmas.Bool.Decides.{nat_tests}
use Rattle.table.specs.Chain.{first_from}

module _ (p : ℕ → Bool) where
  first_low : (i n : ℕ) → i ≤ first_from p i n
  first_low i zero = omega arith
  first_low i (suc n) = let h = first_low (suc i) n in grind (arith, nat_tests)

  -- what the first number is known for
  pub first_before : (i n k : ℕ) → i ≤ k → k < first_from p i n → p k ≡ false
  first_before i zero k low high = absurd (omega arith)
  first_before i (suc n) k low high =
      elim (cases_eq i k) [ inl same ↦ grind (arith, nat_tests) | inr other ↦ first_before (suc i) n k (omega arith) (grind (arith, nat_tests)) ]

  pub first_at : (i n : ℕ) → first_from p i n < i + n → p (first_from p i n) ≡ true
  first_at i zero high = absurd (omega arith)
  first_at i (suc n) high =
      let rest = first_at (suc i) n in
      grind (arith, nat_tests)

  pub first_past : (i n j : ℕ) → i ≤ j → j ≤ i + n → ((k : ℕ) → i ≤ k → k < j → p k ≡ false) → j ≤ first_from p i n
  first_past i n j low high none =
      elim (cases_lt (first_from p i n) j) [
        | inl l ↦ absurd (both_ways (p (first_from p i n)) (none (first_from p i n) (first_low i n) l) (first_at i n (omega arith)))
        | inr l ↦ l
      ]

  pub first_is : (i n j : ℕ) → i ≤ j → j < i + n → ((k : ℕ) → i ≤ k → k < j → p k ≡ false) → p j ≡ true → first_from p i n ≡ j
  first_is i n j low high none e =
      elim (cases_lt j (first_from p i n)) [
        | inl l ↦ absurd (both_ways (p j) (first_before i n j low l) e)
        | inr l ↦ omega (arith, first_past i n j low (omega arith) none)
      ]
