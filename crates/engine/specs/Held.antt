-- Ticks taken under one verdict word. Assumes nothing.
use Rattle.std.specs.Prelude.{◌≡◌, ℕ, ◌<◌, ◌≤◌, List, [], ◌∷◌, ◌++◌, length, replicate, ◌≢◌, slice_index_or}
use Rattle.mitl.specs.declared.Row.{Row}
use Rattle.mitl.specs.Memory.{Meaning}
use Rattle.mitl.specs.Rows.{timed_rows, verdict}
use Rattle.engine.specs.Means.{Means}
use Rattle.engine.specs.Due.{coming}

-- the verdict word of the next tick after h, with the input word w
abbrev pub coming_first : List Row → List ℕ → ℕ → ℕ
coming_first rows h w = verdict rows (h ++ (w ∷ [])) (length h)

-- over the history h: n ticks with the input word w, all with the verdict word z, are taken
pub record Over {X : Type 0} (meaning : X → Meaning) (rows : List Row) (w : ℕ) (ys : List X) (z n : ℕ) (h : List ℕ) : Type 0 where
  pub means : Means meaning rows ys (h ++ replicate n w)
  pub alike : coming rows h n w ≡ replicate n z

-- the part xs becomes ys by n such ticks
pub record Held {X : Type 0} (meaning : X → Meaning) (rows : List Row) (w : ℕ) (xs ys : List X) (z n : ℕ) : Type 0 where
  pub past : (i : ℕ) (m : X) → timed_rows rows ≤ i → slice_index_or ys i m ≡ slice_index_or xs i m
  pub over : (h : List ℕ) → Means meaning rows xs h → Over meaning rows w ys z n h

-- and the run is a longest one of at most `most` ticks
pub record Whole {X : Type 0} (meaning : X → Meaning) (rows : List Row) (w most : ℕ) (xs ys : List X) (z n : ℕ) : Type 0 where
  pub some : 0 < n
  pub within : n ≤ most
  pub held : Held meaning rows w xs ys z n
  pub ends : (h : List ℕ) → Means meaning rows xs h → n < most → coming_first rows (h ++ replicate n w) w ≢ z
