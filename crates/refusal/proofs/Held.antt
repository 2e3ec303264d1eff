-- Faults and the refusal that they come to. Assumes nothing.
use Rattle.std.proofs.Common.{◌≡◌, ℕ, zero, suc, ◌+◌, ◌<◌, ◌≤◌, Bool, true, false, cond, ◌⊎◌, ◌↔◌, List, [], ◌∷◌, map, is_some, Some, None, Option, sym, refl, ap, ◌∙◌, inl, inr, ⊎_elim, arith}
use Rattle.std.specs.List.{range_with_len}
use Rattle.std.proofs.lemmas.Bool.{both_ways, cond-true, cond-false, cases_eq}
use Rattle.refusal.specs.declared.Refusal.{Refusal}
use Rattle.refusal.specs.Faults.{Fault, first_fault, OneHeld}

-- the first of two: x where b holds, else the rest
step : (b : Bool) (x : Refusal) (rest : Option Refusal) {H : Type 0} → (is_some rest ≡ true) ↔ H → (is_some (cond b (Some x) rest) ≡ true) ↔ ((b ≡ true) ⊎ H)
step true x rest held = (λ _. inl refl, λ _. refl)
step false x rest held = (λ e. inr (held.0 e), λ h. ⊎_elim (λ e. absurd (both_ways false refl e)) held.1 h)

pub one_held : OneHeld
one_held [] = (λ e. both_ways false refl e, λ h. absurd h)
one_held (f ∷ fs) = step f.held f.answer (first_fault fs) (one_held fs)

cond_none : (b : Bool) (x : Refusal) (rest : Option Refusal) → cond b (Some x) rest ≡ None → (b ≡ false) × (rest ≡ None)
cond_none true x rest e = cc
cond_none false x rest e = (refl, e)

-- where there is no refusal the first fault does not hold, and the others come to none
pub none_parts : (f : Fault) (fs : List Fault) → first_fault (f ∷ fs) ≡ None → (f.held ≡ false) × (first_fault fs ≡ None)
none_parts f fs e = cond_none f.held f.answer (first_fault fs) e

pub none_from : (f : Fault) (fs : List Fault) → f.held ≡ false → first_fault fs ≡ None → first_fault (f ∷ fs) ≡ None
none_from f fs off none = cond-false f.held (Some f.answer) (first_fault fs) off ∙ none

-- Faults that are numbered from a on: none of them holds, or the one numbered i is the first.
pub none_counted : (F : ℕ → Fault) (a n : ℕ) → ((i : ℕ) → a ≤ i → i < a + n → (F i).held ≡ false) → first_fault (map F (range_with_len a n)) ≡ None
none_counted F a zero off = refl
none_counted F a (suc n) off =
    none_from (F a) (map F (range_with_len (a + 1) n)) (off a (omega arith) (omega arith)) (none_counted F (a + 1) n (λ i low high. off i (omega arith) (omega arith)))

pub first_counted : (F : ℕ → Fault) (a n i : ℕ) → a ≤ i → i < a + n → ((j : ℕ) → a ≤ j → j < i → (F j).held ≡ false) → (F i).held ≡ true
    → first_fault (map F (range_with_len a n)) ≡ Some (F i).answer
first_counted F a zero i low high off on = absurd (omega arith)
first_counted F a (suc n) i low high off on =
    elim (cases_eq a i) [
      | inl is ↦ cond-true (F a).held (Some (F a).answer) (first_fault (map F (range_with_len (a + 1) n))) (ap (λ k. (F k).held) is ∙ on) ∙ ap (λ k. Some (F k).answer) is
      | inr not ↦ cond-false (F a).held (Some (F a).answer) (first_fault (map F (range_with_len (a + 1) n))) (off a (omega arith) (omega arith))
          ∙ first_counted F (a + 1) n i (omega arith) (omega arith) (λ j l h. off j (omega arith) h) on
    ]

-- where numbered faults come to none, each is off
pub off_counted : (F : ℕ → Fault) (a n : ℕ) → first_fault (map F (range_with_len a n)) ≡ None → (i : ℕ) → a ≤ i → i < a + n → (F i).held ≡ false
off_counted F a zero none i low high = absurd (omega arith)
off_counted F a (suc n) none i low high =
    let p = none_parts (F a) (map F (range_with_len (a + 1) n)) none in
    elim (cases_eq a i) [ inl is ↦ ap (λ k. (F k).held) (sym is) ∙ p.0 | inr not ↦ off_counted F (a + 1) n p.1 i (omega arith) (omega arith) ]
