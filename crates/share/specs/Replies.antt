-- The one reply to each question for a share. Assumes nothing.
use Rattle.std.specs.Prelude.{◌≡◌, ℕ, ◌<◌, ◌≤◌, List, [], ◌∷◌, length, Some, None, Ok, Err, Result, ◌==◌, nat_lt}
use Rattle.refusal.specs.declared.Refusal.{Refusal}
use Rattle.refusal.specs.Faults.{Fault, fault, refusal, first_fault}
use Rattle.record.specs.declared.Car.{Car}
use Rattle.record.specs.declared.Note.{Note}
use Rattle.share.specs.declared.Share.{Share}
use Rattle.share.specs.declared.BusiestRule.{BusiestRule}
use Rattle.share.specs.declared.ShareFault.{ShareFault}
use Rattle.share.specs.declared.ShareFault.TheVariants.{RuleAbove, TooManyNotes, NoTick}
use Rattle.share.specs.Ticks.{car_ticks, rule_ticks, figure}

-- each refusal's number and place
abbrev pub refusal_of : ShareFault → Refusal
refusal_of RuleAbove = refusal 21 0
refusal_of TooManyNotes = refusal 21 1
refusal_of NoTick = refusal 21 2

-- what can be wrong with notes and a car, in the order in which it is looked for
abbrev pub note_faults : List Note → Car → List Fault
note_faults ns c = fault (nat_lt 4096 (length ns)) 21 1 ∷ fault (car_ticks ns c == 0) 21 2 ∷ []

-- what can be wrong where a rule is named: the rule first
abbrev pub rule_faults : List Note → Car → ℕ → List Fault
rule_faults ns c i = fault (nat_lt 15 i) 21 0 ∷ note_faults ns c

-- the rule's ticks, all the car's ticks and the figure
pub record Parted (ns : List Note) (c : Car) (i : ℕ) (s : Share) : Type 0 where
  pub part_is : s.with_rule ≡ rule_ticks ns c i
  pub whole_is : s.all ≡ car_ticks ns c
  pub figure_is : s.per_mille ≡ figure ns c i

-- The rule's share if no fault holds, else the first fault.
abbrev pub Shared : List Note → Car → ℕ → Result Share ShareFault → Type 0
Shared ns c i (Ok s) = (first_fault (rule_faults ns c i) ≡ None) × Parted ns c i s
Shared ns c i (Err e) = first_fault (rule_faults ns c i) ≡ Some (refusal_of e)

-- of the rules below n that of the greatest figure: none is above it, and every lower rule's is below it
pub record Busiest (ns : List Note) (c : Car) (n : ℕ) (b : BusiestRule) : Type 0 where
  pub known : b.rule < n
  pub figure_is : b.per_mille ≡ figure ns c b.rule
  pub greatest : (i : ℕ) → i < n → figure ns c i ≤ b.per_mille
  pub lowest : (i : ℕ) → i < b.rule → figure ns c i < b.per_mille

-- of two rules the second, if its figure is greater
pub record Busier (a b r : BusiestRule) : Type 0 where
  pub second : a.per_mille < b.per_mille → r ≡ b
  pub first : b.per_mille ≤ a.per_mille → r ≡ a

-- The busiest of the sixteen rules if no fault holds, else the first fault.
abbrev pub Busied : List Note → Car → Result BusiestRule ShareFault → Type 0
Busied ns c (Ok b) = (first_fault (note_faults ns c) ≡ None) × Busiest ns c 16 b
Busied ns c (Err e) = first_fault (note_faults ns c) ≡ Some (refusal_of e)
