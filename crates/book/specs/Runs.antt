-- Runs of calls, one after another with nothing between. Assumes nothing.
use Rattle.std.specs.Prelude.{◌≡◌, ℕ, Bool, ◌↔◌, List, [], ◌∷◌}
use Rattle.refusal.specs.declared.Refusal.{Refusal}
use Rattle.refusal.specs.Faults.{SomeHeld}
use Rattle.book.specs.Book.{Book}
use Rattle.book.specs.Calls.{refused, Event, faults_of_call, Right, next}

module _ (admitted : ℕ → ℕ → Bool) (room : ℕ) where
  -- the book after a list of calls
  abbrev pub after : Book → List Event → Book
  after k [] = k
  after k (e ∷ es) = after (next admitted room k e) es

  -- every call of the list was answered by the book before it
  abbrev pub Told : Book → List Event → Type 0
  Told k [] = Unit {0}
  Told k (e ∷ es) = Right admitted room k e × Told (next admitted room k e) es

  abbrev pub IsRefused : Event → Type 0
  IsRefused e = (r : Refusal) × (e.answer ≡ refused r)

  -- every call of the list was refused exactly when one of its faults held
  abbrev pub RefusedWhen : Book → List Event → Type 0
  RefusedWhen k [] = Unit {0}
  RefusedWhen k (e ∷ es) = (IsRefused e ↔ SomeHeld (faults_of_call admitted room k e.call)) × RefusedWhen (next admitted room k e) es

  module _ {Watch : Type 0} (Keeps : Watch → Book → Type 0) where
    -- What each call ensures: whatever book the watch keeps, the answer is by that book, and then it keeps the next.
    abbrev pub Step : Watch → Event → Watch → Type 0
    Step w e w' = (k : Book) → Keeps w k → Right admitted room k e × Keeps w' (next admitted room k e)

    -- a run: each call begins where the one before it ended
    abbrev pub Trace : Watch → List Event → Watch → Type 0
    Trace w [] w' = w ≡ w'
    Trace w (e ∷ es) w'' = (w' : Watch) × Step w e w' × Trace w' es w''
