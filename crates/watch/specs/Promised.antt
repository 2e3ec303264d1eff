-- What the watch promises after any list of calls, for one kind of memory and for two. Assumes nothing.
use Rattle.std.specs.Prelude.{ℕ, Bool}
use Rattle.mitl.specs.Memory.{Meaning}
use Rattle.book.specs.Promise.{AfterAnyList, KindsAgree}
use Rattle.watch.specs.Keeping.{Keeps}

-- however many memories there are
abbrev pub Promise : {M : Type 0} → (M → Meaning) → (ℕ → ℕ → Bool) → Type 0
Promise meaning admitted = (room : ℕ) → AfterAnyList admitted room (Keeps meaning room)

abbrev pub BothEnds : {M N : Type 0} → (M → Meaning) → (ℕ → ℕ → Bool) → (N → Meaning) → (ℕ → ℕ → Bool) → Type 0
BothEnds meaning admitted meaning' admitted' = (room room' : ℕ) → KindsAgree admitted room (Keeps meaning room) admitted' room' (Keeps meaning' room')
