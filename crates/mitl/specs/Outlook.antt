-- The outlook that a history gives a timed row: what its memory has to mean. Assumes nothing.
use Rattle.std.specs.Prelude.{◌≡◌, ℕ, ◌+◌, ◌<◌, ◌≤◌, Bool, true, false, not, ◌&&◌, ◌||◌, List, length, nat_le}
use Rattle.mitl.specs.Formulas.{Formula, input, neg, both, either, once, always, since, Sat, sat}
use Rattle.mitl.specs.Windows.{Window, window, some_below, all_below}
use Rattle.mitl.specs.declared.Row.{Row}
use Rattle.mitl.specs.declared.Row.TheVariants.{Input, Not, And, Or, Once, Always, Since, Rule}
use Rattle.mitl.specs.Memory.{Meaning}

-- the window from a to b of a timed formula
abbrev pub from : Formula → ℕ
from (input i) = 0
from (neg f) = 0
from (both f g) = 0
from (either f g) = 0
from (once f a b) = a
from (always f a b) = a
from (since f g a b) = a

abbrev pub to : Formula → ℕ
to (input i) = 0
to (neg f) = 0
to (both f g) = 0
to (either f g) = 0
to (once f a b) = b
to (always f a b) = b
to (since f g a b) = b

-- Tick u, of the first t, counts: the operand of `once` is yes there, that of `always` no, the right operand of `since`
-- is yes there and its left one from there on.
abbrev pub Counts : Formula → List ℕ → ℕ → ℕ → Type 0
Counts (input i) h t u = ⊥
Counts (neg f) h t u = ⊥
Counts (both f g) h t u = ⊥
Counts (either f g) h t u = ⊥
Counts (once f a b) h t u = Sat f h u
Counts (always f a b) h t u = Sat f h u → ⊥
Counts (since f g a b) h t u = Sat g h u × ((s : ℕ) → u ≤ s → s < t → Sat f h s)

-- Mark d: the tick d ahead, 0 being the next, is within reach of a tick taken that counts.
abbrev pub Marked : Formula → List ℕ → ℕ → Type 0
Marked f h d = (u : ℕ) × (u < length h) × Window (from f) (to f) (length h + d) u × Counts f h (length h) u

-- the same as a test, yes or no
abbrev pub counts : Formula → List ℕ → ℕ → ℕ → Bool
counts (input i) h t u = false
counts (neg f) h t u = false
counts (both f g) h t u = false
counts (either f g) h t u = false
counts (once f a b) h t u = sat f h u
counts (always f a b) h t u = not (sat f h u)
counts (since f g a b) h t u = sat g h u && all_below (λ s. not (nat_le u s) || sat f h s) t

-- the tick d after the first t is within reach of one of them that counts
abbrev pub reach : ℕ → ℕ → (ℕ → Bool) → ℕ → ℕ → Bool
reach a b c t d = some_below (λ u. window a b (t + d) u && c u) t

-- the outlook after a history: mark d
abbrev pub outlook : Formula → List ℕ → ℕ → Bool
outlook f h d = reach (from f) (to f) (counts f h (length h)) (length h) d

-- what the memory of a timed row means after a history
abbrev pub looked : Formula → List ℕ → Meaning
looked f h = record { a = from f; b = to f; mark = outlook f h }

-- the window of a timed row
abbrev pub row_from : Row → ℕ
row_from (Input i) = 0
row_from (Not l) = 0
row_from (And l r) = 0
row_from (Or l r) = 0
row_from (Once l a b) = a
row_from (Always l a b) = a
row_from (Since l r a b) = a
row_from (Rule i l) = 0

abbrev pub row_to : Row → ℕ
row_to (Input i) = 0
row_to (Not l) = 0
row_to (And l r) = 0
row_to (Or l r) = 0
row_to (Once l a b) = b
row_to (Always l a b) = b
row_to (Since l r a b) = b
row_to (Rule i l) = 0

-- Tick u, of the first t, counts for a timed row, where `reading k s` is how the row at place k is read at tick s: the left
-- row of D is yes there, that of B no, the right row of S is yes there and its left one from there on.
abbrev pub RowCounts : Row → (ℕ → ℕ → Bool) → ℕ → ℕ → Type 0
RowCounts (Input i) reading t u = ⊥
RowCounts (Not l) reading t u = ⊥
RowCounts (And l r) reading t u = ⊥
RowCounts (Or l r) reading t u = ⊥
RowCounts (Once l a b) reading t u = reading l u ≡ true
RowCounts (Always l a b) reading t u = reading l u ≡ false
RowCounts (Since l r a b) reading t u = (reading r u ≡ true) × ((s : ℕ) → u ≤ s → s < t → reading l s ≡ true)
RowCounts (Rule i l) reading t u = ⊥

-- Mark d of a timed row after t ticks: t + d - b ≤ u ≤ t + d - a for some tick u taken that counts.
abbrev pub RowMarked : Row → (ℕ → ℕ → Bool) → ℕ → ℕ → Type 0
RowMarked r reading t d = (u : ℕ) × (u < t) × Window (row_from r) (row_to r) (t + d) u × RowCounts r reading t u
