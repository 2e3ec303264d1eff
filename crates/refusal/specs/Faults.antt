-- Faults in the order in which they are looked for, and the refusal that they come to. Assumes nothing.
use Rattle.std.specs.Prelude.{◌≡◌, ℕ, Bool, true, cond, ◌⊎◌, ◌↔◌, List, [], ◌∷◌, is_some, Some, None, Option}
use Rattle.refusal.specs.declared.Refusal.{Refusal}

abbrev pub refusal : ℕ → ℕ → Refusal
refusal n p = record { number = n; place = p }

-- a fault that may hold, with its refusal
pub record Fault : Type 0 where
  pub held : Bool
  pub answer : Refusal

abbrev pub fault : Bool → ℕ → ℕ → Fault
fault b n p = record { held = b; answer = refusal n p }

-- the refusal of the first fault that holds
abbrev pub first_fault : List Fault → Option Refusal
first_fault [] = None
first_fault (f ∷ fs) = cond f.held (Some f.answer) (first_fault fs)

-- one of the faults holds
abbrev pub SomeHeld : List Fault → Type 0
SomeHeld [] = ⊥
SomeHeld (f ∷ fs) = (f.held ≡ true) ⊎ SomeHeld fs

-- there is a refusal exactly when one of the faults holds
abbrev pub OneHeld : Type 0
OneHeld = (fs : List Fault) → (is_some (first_fault fs) ≡ true) ↔ SomeHeld fs
