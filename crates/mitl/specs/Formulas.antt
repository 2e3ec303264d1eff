-- Past MITL with bounded windows: its formulas, and what they say at a tick of a history. Assumes nothing.
-- A history is the list of the input words, of 32 bits each, that a car had at its ticks since its restart, tick 0 first.
use Rattle.std.specs.Prelude.{◌≡◌, ℕ, suc, ◌*◌, ◌/◌, ◌%◌, ◌^◌, ◌≤◌, Bool, true, not, ◌&&◌, ◌||◌, ◌⊎◌, List, replicate, ◌==◌, nat_le, slice_index}
use Rattle.std.specs.List.{flat_map}
use Rattle.mitl.specs.Windows.{Window, window, some_below, all_below}

-- The last two numbers of a timed formula are its window, from a to b ticks back.
pub data Formula : Type 0 where
  -- a bit of the input word
  input : ℕ → Formula
  -- not, and, or
  neg : Formula → Formula
  both : Formula → Formula → Formula
  either : Formula → Formula → Formula
  -- at some tick of the window
  once : Formula → ℕ → ℕ → Formula
  -- at every tick of the window
  always : Formula → ℕ → ℕ → Formula
  -- the second at some tick of the window, and the first ever since
  since : Formula → Formula → ℕ → ℕ → Formula

-- bit i of a word is 1; bit 0 is the least significant
abbrev pub bit : ℕ → ℕ → Bool
bit i word = (word / 2 ^ i) % 2 == 1

-- What a formula says at tick t of a history. A tick u of a window is a natural number, so a window that reaches back
-- before tick 0 is cut off there, and `always` holds where nothing is left of it. In `since` the tick u and the present
-- tick t both count. Beyond the history's end every input is off.
abbrev pub Sat : Formula → List ℕ → ℕ → Type 0
Sat (input i) h t = bit i (slice_index h t) ≡ true
Sat (neg f) h t = Sat f h t → ⊥
Sat (both f g) h t = Sat f h t × Sat g h t
Sat (either f g) h t = Sat f h t ⊎ Sat g h t
Sat (once f a b) h t = (u : ℕ) × Window a b t u × Sat f h u
Sat (always f a b) h t = (u : ℕ) → Window a b t u → Sat f h u
Sat (since f g a b) h t = (u : ℕ) × Window a b t u × Sat g h u × ((s : ℕ) → u ≤ s → s ≤ t → Sat f h s)

-- the same as a test, yes or no
abbrev pub sat : Formula → List ℕ → ℕ → Bool
sat (input i) h t = bit i (slice_index h t)
sat (neg f) h t = not (sat f h t)
sat (both f g) h t = sat f h t && sat g h t
sat (either f g) h t = sat f h t || sat g h t
sat (once f a b) h t = some_below (λ u. window a b t u && sat f h u) (suc t)
sat (always f a b) h t = all_below (λ u. not (window a b t u) || sat f h u) (suc t)
sat (since f g a b) h t = some_below (λ u. window a b t u && (sat g h u && all_below (λ s. not (nat_le u s) || sat f h s) (suc t))) (suc t)

-- every bound multiplied by q
abbrev pub scaled : ℕ → Formula → Formula
scaled q (input i) = input i
scaled q (neg f) = neg (scaled q f)
scaled q (both f g) = both (scaled q f) (scaled q g)
scaled q (either f g) = either (scaled q f) (scaled q g)
scaled q (once f a b) = once (scaled q f) (q * a) (q * b)
scaled q (always f a b) = always (scaled q f) (q * a) (q * b)
scaled q (since f g a b) = since (scaled q f) (scaled q g) (q * a) (q * b)

-- every tick split into q parts, each with the tick's word: part p belongs to tick p / q
abbrev pub parts : ℕ → List ℕ → List ℕ
parts q h = flat_map (replicate q) h
