-- One step over the rows, and how it changes the memories. Assumes nothing.
use Rattle.std.specs.Prelude.{◌≡◌, ℕ, ◌<◌, ◌≤◌, min, Bool, true, false, not, ◌&&◌, ◌||◌, List, map, length, Some, None, Option, ◌≢◌, slice_index_or}
use Rattle.mitl.specs.declared.Row.{Row}
use Rattle.mitl.specs.declared.Row.TheVariants.{Input, Not, And, Or, Once, Always, Since, Rule}
use Rattle.mitl.specs.Formulas.{bit}
use Rattle.mitl.specs.Memory.{Meaning, new_memory, ahead}
use Rattle.mitl.specs.Rows.{row_at, timed_before, is_timed, is_rule}
use Rattle.mitl.specs.Windows.{some_below}
use Rattle.mitl.specs.Blocks.{advanced}
use Rattle.engine.specs.declared.reading.Step.{Step}

-- what the memory at place i means; where there is none, a new memory
abbrev pub meant : {X : Type 0} → (X → Meaning) → List X → ℕ → Meaning
meant meaning ms i = slice_index_or (map meaning ms) i new_memory

-- the reading of the row at place k, no beyond their end
abbrev pub reading : List Bool → ℕ → Bool
reading vs k = slice_index_or vs k false

-- the reading of a row d ticks ahead, if its operands keep the readings v and its memory means m
abbrev pub seen : Row → Meaning → (ℕ → Bool) → ℕ → ℕ → Bool
seen (Input i) m v w d = bit i w
seen (Not l) m v w d = not (v l)
seen (And l r) m v w d = v l && v r
seen (Or l r) m v w d = v l || v r
seen (Once l a b) m v w d = ahead m.a (v l) m.mark d
seen (Always l a b) m v w d = not (ahead m.a (not (v l)) m.mark d)
seen (Since l r a b) m v w d = v l && ahead m.a (v r) m.mark d
seen (Rule i l) m v w d = v l

-- a row that readings of 64 rows, an input word and a verdict word can serve
abbrev pub Readable : Row → Type 0
Readable (Input i) = i < 32
Readable (Not l) = l < 64
Readable (And l r) = (l < 64) × (r < 64)
Readable (Or l r) = (l < 64) × (r < 64)
Readable (Once l a b) = l < 64
Readable (Always l a b) = l < 64
Readable (Since l r a b) = (l < 64) × (r < 64)
Readable (Rule i l) = (i < 16) × (l < 64)

-- d lies within a length, where none is for ever
abbrev pub Before : ℕ → Option ℕ → Type 0
Before d None = Unit {0}
Before d (Some n) = d < n

-- the shorter of two lengths, where none is for ever
abbrev pub shorter : Option ℕ → Option ℕ → Option ℕ
shorter None y = y
shorter (Some x) None = Some x
shorter (Some x) (Some y) = Some (min x y)

-- a length, and at most n
abbrev pub capped : Option ℕ → ℕ → ℕ
capped None n = n
capped (Some x) n = min x n

-- P holds at the end of a length that is not for ever
abbrev pub AtEnd : (ℕ → Type 0) → Option ℕ → Type 0
AtEnd P None = Unit {0}
AtEnd P (Some n) = P n

-- ys is xs but for the memory at place i, which means f of what it meant
pub record Told {X : Type 0} (meaning : X → Meaning) (f : Meaning → Meaning) (i : ℕ) (xs ys : List X) : Type 0 where
  pub there : (z : X) → meaning (slice_index_or ys i z) ≡ f (meaning (slice_index_or xs i z))
  pub others : (k : ℕ) (z : X) → (k ≢ i) → slice_index_or ys k z ≡ slice_index_or xs k z

-- one of the first n rows has another reading d ticks ahead than in vs
abbrev pub Turns : {X : Type 0} → (X → Meaning) → List Row → ℕ → List X → ℕ → List Bool → ℕ → Type 0
Turns meaning rows w ms n vs d = (k : ℕ) × (k < n) × (seen (row_at rows k) (meant meaning ms (timed_before rows k)) (reading vs) w d ≡ not (reading vs k))

-- The first n rows have the readings vs at each tick ahead within the length o, if the input word stays w, and at its
-- end one of them changes; bit i of the verdict word z is rule i.
pub record Foreseen {X : Type 0} (meaning : X → Meaning) (rows : List Row) (w : ℕ) (ms : List X) (n : ℕ) (vs : List Bool) (z : ℕ) (o : Option ℕ) : Type 0 where
  pub keeps : (k : ℕ) → k < n → (d : ℕ) → Before d o → seen (row_at rows k) (meant meaning ms (timed_before rows k)) (reading vs) w d ≡ reading vs k
  pub change : AtEnd (Turns meaning rows w ms n vs) o
  pub some : Before 0 o
  pub small : z < 65536
  pub bits : (i : ℕ) → bit i z ≡ some_below (λ k. is_rule i (row_at rows k) && reading vs k) n

-- the step has the readings of all rows, their verdict word, and for how long they stay
abbrev pub Foresees : {X : Type 0} → (X → Meaning) → List Row → ℕ → List X → Step → Type 0
Foresees meaning rows w ms s = Foreseen meaning rows w ms (length rows) s.readings s.word s.lasts

-- The memories of the first j rows took n ticks at which the rows have the readings v; the memories past them stay.
pub record Advanced {X : Type 0} (meaning : X → Meaning) (rows : List Row) (v : ℕ → Bool) (n : ℕ) (j : ℕ) (xs ys : List X) : Type 0 where
  pub there : (k : ℕ) (z : X) → k < j → is_timed (row_at rows k) ≡ true → meaning (slice_index_or ys (timed_before rows k) z) ≡ advanced (row_at rows k) v n (meaning (slice_index_or xs (timed_before rows k) z))
  pub past : (i : ℕ) (z : X) → timed_before rows j ≤ i → slice_index_or ys i z ≡ slice_index_or xs i z
