-- The rows over ticks ahead that all have one input word, from their marks. Assumes nothing.
use Rattle.std.specs.Prelude.{◌≡◌, ℕ, ◌+◌, ◌<◌, ◌≤◌, Bool, false, cond, not, ◌&&◌, ◌||◌, List, ◌++◌, length, replicate}
use Rattle.mitl.specs.declared.Row.{Row}
use Rattle.mitl.specs.declared.Row.TheVariants.{Input, Not, And, Or, Once, Always, Since, Rule}
use Rattle.mitl.specs.Formulas.{bit}
use Rattle.mitl.specs.Memory.{Meaning, took, cleared, taken, ahead}
use Rattle.mitl.specs.Rows.{row_at, formula_at, formulas, read}
use Rattle.mitl.specs.Outlook.{outlook, looked}

-- the reading of a row d ticks ahead, if the word is w and the earlier rows keep the values v until then
abbrev pub row_ahead : Row → (ℕ → Bool) → (ℕ → Bool) → ℕ → ℕ → Bool
row_ahead (Input i) mark v w d = bit i w
row_ahead (Not l) mark v w d = not (v l)
row_ahead (And l r) mark v w d = v l && v r
row_ahead (Or l r) mark v w d = v l || v r
row_ahead (Once l a b) mark v w d = ahead a (v l) mark d
row_ahead (Always l a b) mark v w d = not (ahead a (not (v l)) mark d)
row_ahead (Since l r a b) mark v w d = v l && ahead a (v r) mark d
row_ahead (Rule i l) mark v w d = v l

-- the marks of a timed row after n such ticks
abbrev pub row_after : Row → (ℕ → Bool) → (ℕ → Bool) → ℕ → ℕ → Bool
row_after (Input i) mark v n d = false
row_after (Not l) mark v n d = false
row_after (And l r) mark v n d = false
row_after (Or l r) mark v n d = false
row_after (Once l a b) mark v n d = taken a b (v l) n mark d
row_after (Always l a b) mark v n d = taken a b (not (v l)) n mark d
row_after (Since l r a b) mark v n d = v l && taken a b (v r) n mark d
row_after (Rule i l) mark v n d = false

-- What the memory of a row means after n such ticks: it takes them, or is cleared where the left row of S is no.
abbrev pub advanced : Row → (ℕ → Bool) → ℕ → Meaning → Meaning
advanced (Input i) v n m = m
advanced (Not l) v n m = m
advanced (And l r) v n m = m
advanced (Or l r) v n m = m
advanced (Once l a b) v n m = took (v l) n m
advanced (Always l a b) v n m = took (not (v l)) n m
advanced (Since l r a b) v n m = cond (v l) (took (v r) n m) (cleared m)
advanced (Rule i l) v n m = m

-- a window does not end before it starts
abbrev pub Proper : Row → Type 0
Proper (Input i) = Unit {0}
Proper (Not l) = Unit {0}
Proper (And l r) = Unit {0}
Proper (Or l r) = Unit {0}
Proper (Once l a b) = a ≤ b
Proper (Always l a b) = a ≤ b
Proper (Since l r a b) = a ≤ b
Proper (Rule i l) = Unit {0}

-- the outlook of the row at place k, and what its memory means, after the history h
abbrev pub row_outlook : List Row → ℕ → List ℕ → ℕ → Bool
row_outlook rows k h = outlook (formula_at (formulas rows) k) h

abbrev pub row_looked : List Row → ℕ → List ℕ → Meaning
row_looked rows k h = looked (formula_at (formulas rows) k) h

-- each row has by its marks the value that v gives it, at each of the n ticks ahead with the word w
abbrev pub Foreseen : List Row → List ℕ → ℕ → ℕ → (ℕ → Bool) → Type 0
Foreseen rows h n w v = (k : ℕ) → k < length rows → (d : ℕ) → d < n → row_ahead (row_at rows k) (row_outlook rows k h) v w d ≡ v k

-- each row before place j is read as v has it, at each of the n ticks with the word w that follow the history h
abbrev pub Steady : List Row → List ℕ → ℕ → ℕ → (ℕ → Bool) → ℕ → Type 0
Steady rows h n w v j = (k : ℕ) → k < j → (u : ℕ) → length h ≤ u → u < length h + n → read rows (h ++ replicate n w) k u ≡ v k
