-- The first fault of a list of faults, and of lists that are joined. Assumes nothing.
use Rattle.std.proofs.Common.{◌≡◌, ℕ, zero, suc, ◌+◌, ◌<◌, ◌≤◌, Bool, true, false, cond, List, [], ◌∷◌, ◌++◌, Some, None, sym, refl, ap, ◌∙◌, inl, inr, arith}
use Rattle.std.specs.List.{range_with_len, flat_map, AllByRecursion}
use Rattle.std.proofs.lemmas.Bool.{cases_eq, cond-false}
use Rattle.refusal.specs.Faults.{Fault, first_fault}
use Rattle.refusal.proofs.Held.{none_parts, none_from}
use Rattle.refusal.specs.declared.Refusal.{Refusal}

-- where no fault is first, none holds
pub none_held : (fs : List Fault) → first_fault fs ≡ None → AllByRecursion (λ f. f.held ≡ false) fs
none_held [] e = tt
none_held (f ∷ fs) e = let p = none_parts f fs e in (p.0, none_held fs p.1)

pub after_none : (xs ys : List Fault) → first_fault xs ≡ None → first_fault (xs ++ ys) ≡ first_fault ys
after_none [] ys e = refl
after_none (x ∷ xs) ys e = let p = none_parts x xs e in cond-false x.held _ _ p.0 ∙ after_none xs ys p.1

pub before_rest : (xs ys : List Fault) (r : Refusal) → first_fault xs ≡ Some r → first_fault (xs ++ ys) ≡ Some r
before_rest [] ys r e = cc
before_rest (x ∷ xs) ys r e = past x.held (before_rest xs ys r) e
  where
    past : (b : Bool) → (first_fault xs ≡ Some r → first_fault (xs ++ ys) ≡ Some r)
        → cond b (Some x.answer) (first_fault xs) ≡ Some r → cond b (Some x.answer) (first_fault (xs ++ ys)) ≡ Some r
    past true rest e' = e'
    past false rest e' = rest e'

pub none_joined : (xs ys : List Fault) → first_fault (xs ++ ys) ≡ None → (first_fault xs ≡ None) × (first_fault ys ≡ None)
none_joined [] ys e = (refl, e)
none_joined (x ∷ xs) ys e =
    let p = none_parts x (xs ++ ys) e in
    let rest = none_joined xs ys p.1 in
    (none_from x xs p.0 rest.0, rest.1)

module _ (f : ℕ → List Fault) where
  pub none_along : (a n : ℕ) → first_fault (flat_map f (range_with_len a n)) ≡ None → (k : ℕ) → a ≤ k → k < a + n → first_fault (f k) ≡ None
  none_along a zero e k low high = absurd (omega arith)
  none_along a (suc n) e k low high =
      let parts = none_joined (f a) (flat_map f (range_with_len (a + 1) n)) e in
      elim (cases_eq a k) [
        | inl same ↦ ap (λ i. first_fault (f i)) (sym same) ∙ parts.0
        | inr other ↦ none_along (a + 1) n parts.1 k (omega arith) (omega arith)
      ]

  pub along_none : (a n : ℕ) → ((k : ℕ) → a ≤ k → k < a + n → first_fault (f k) ≡ None) → first_fault (flat_map f (range_with_len a n)) ≡ None
  along_none a zero none = refl
  along_none a (suc n) none =
      after_none (f a) (flat_map f (range_with_len (a + 1) n)) (none a (omega arith) (omega arith))
      ∙ along_none (a + 1) n (λ k low high. none k (omega arith) (omega arith))

  pub along_some : (a n i : ℕ) (r : Refusal) → a ≤ i → i < a + n → ((k : ℕ) → a ≤ k → k < i → first_fault (f k) ≡ None)
      → first_fault (f i) ≡ Some r → first_fault (flat_map f (range_with_len a n)) ≡ Some r
  along_some a zero i r low high none e = absurd (omega arith)
  along_some a (suc n) i r low high none e =
      elim (cases_eq a i) [
        | inl same ↦ before_rest (f a) (flat_map f (range_with_len (a + 1) n)) r (ap (λ k. first_fault (f k)) same ∙ e)
        | inr other ↦
            after_none (f a) (flat_map f (range_with_len (a + 1) n)) (none a (omega arith) (omega arith))
            ∙ along_some (a + 1) n i r (omega arith) (omega arith) (λ k l h. none k (omega arith) h) e
      ]
