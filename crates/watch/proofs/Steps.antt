-- A call's step, refused or not. Assumes nothing.
use Rattle.std.proofs.Common.{◌≡◌, ℕ, Bool, List, [], Some, None, Option, sym, refl, subst}
use Rattle.refusal.specs.declared.Refusal.{Refusal}
use Rattle.refusal.specs.Faults.{first_fault}
use Rattle.record.specs.declared.Note.{Note}
use Rattle.book.specs.Book.{Book}
use Rattle.book.specs.Calls.{Call, Answer, refused, Event, faults_of_call, call_refusal, accepted_answer, accepted_notes, Answered, Right, after_call, after_unless, next}

abbrev pub made : Call → List Note → Answer → Event
made x notes answer = record { call = x; notes = notes; answer = answer }

module _ {W : Type 0} (admitted : ℕ → ℕ → Bool) (room : ℕ) (Keeps : W → Book → Type 0) (k : Book) (x : Call) where
  both : List Note → Answer → W → Option Refusal → Type 0
  both notes answer w o = Answered admitted room k x notes answer o × Keeps w (after_unless admitted room k x notes o)

  pub refused_step : (w : W) (r : Refusal) (notes : List Note) → first_fault (faults_of_call admitted room k x) ≡ Some r → notes ≡ [] → Keeps w k
      → Right admitted room k (made x notes (refused r)) × Keeps w (next admitted room k (made x notes (refused r)))
  unfolding call_refusal both
  refused_step w r notes e none keeps = subst (both notes (refused r) w) (sym e) ((none, refl), keeps)

  pub accepted_step : (w : W) (notes : List Note) (answer : Answer) → first_fault (faults_of_call admitted room k x) ≡ None
      → notes ≡ accepted_notes admitted room k x → answer ≡ accepted_answer admitted room k x → Keeps w (after_call admitted room k x notes)
      → Right admitted room k (made x notes answer) × Keeps w (next admitted room k (made x notes answer))
  unfolding call_refusal both
  accepted_step w notes answer e notes-are answer-is keeps = subst (both notes answer w) (sym e) ((notes-are, answer-is), keeps)
