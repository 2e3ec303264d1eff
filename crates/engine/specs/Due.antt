-- The runs of verdict words that are due for ticks with one input word. Assumes nothing.
use Rattle.std.specs.Prelude.{ℕ, List, ◌++◌, map, length, take, replicate}
use Rattle.std.specs.List.{range_with_len}
use Rattle.mitl.specs.declared.Row.{Row}
use Rattle.mitl.specs.Rows.{verdict}
use Rattle.mitl.specs.Runs.{Run, runs, ticks}

-- the verdict words of n ticks after the history h, all with the input word w
abbrev pub coming : List Row → List ℕ → ℕ → ℕ → List ℕ
coming rows h n w = map (verdict rows (h ++ replicate n w)) (range_with_len (length h) n)

-- as many of their first longest runs as there are places
abbrev pub due : List Row → List ℕ → ℕ → ℕ → ℕ → List Run
due rows h n w places = take places (runs (coming rows h n w))

-- the ticks that these cover
abbrev pub covered : List Row → List ℕ → ℕ → ℕ → ℕ → ℕ
covered rows h n w places = ticks (due rows h n w places)
