-- Tests over the numbers below a bound. Assumes nothing.
use Rattle.std.proofs.Common.{◌≡◌, ℕ, zero, suc, ◌<◌, Bool, true, false, ◌||◌, refl, inl, inr, arith}
use Rattle.std.proofs.lemmas.Bool.{cases_Bool, both_ways}
use Rattle.mitl.specs.Windows.{some_below, all_below}
use Rattle.mitl.proofs.Tests.{decides_some, decides_all}

module _ (p : ℕ → Bool) where
  pub all_from : (n : ℕ) → ((k : ℕ) → k < n → p k ≡ true) → all_below p n ≡ true
  all_from n = (decides_all p (λ k. p k ≡ true) (λ k. (λ e. e, λ e. e)) n).1

  pub all_at : (n : ℕ) → all_below p n ≡ true → (k : ℕ) → k < n → p k ≡ true
  all_at n = (decides_all p (λ k. p k ≡ true) (λ k. (λ e. e, λ e. e)) n).0

  pub some_from : (n k : ℕ) → k < n → p k ≡ true → some_below p n ≡ true
  some_from n k h e = (decides_some p (λ k. p k ≡ true) (λ k. (λ e. e, λ e. e)) n).1 (k, h, e)

  pub some_at : (n : ℕ) → some_below p n ≡ true → (k : ℕ) × (k < n) × (p k ≡ true)
  some_at n = (decides_some p (λ k. p k ≡ true) (λ k. (λ e. e, λ e. e)) n).0

  pub some_none : (n : ℕ) → ((k : ℕ) → k < n → p k ≡ false) → some_below p n ≡ false
  some_none n none =
      elim (cases_Bool (some_below p n)) [
        | inl e ↦ let w = some_at n e in absurd (both_ways (p w.0) (none w.0 w.1) w.2)
        | inr e ↦ e
      ]

  pub none_at : (n : ℕ) → some_below p n ≡ false → (k : ℕ) → k < n → p k ≡ false
  none_at n none k h =
      elim (cases_Bool (p k)) [
        | inl e ↦ absurd (both_ways (some_below p n) none (some_from n k h e))
        | inr e ↦ e
      ]

-- tests that agree below n
pub some_same : (p q : ℕ → Bool) (n : ℕ) → ((k : ℕ) → k < n → p k ≡ q k) → some_below p n ≡ some_below q n
some_same p q zero same = refl
some_same p q (suc n) same = λ i. same n (omega arith) i || some_same p q n (λ k h. same k (omega arith)) i
