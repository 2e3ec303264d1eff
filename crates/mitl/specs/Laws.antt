-- The laws of verdicts, each the contract of a function. Assumes nothing.
use Rattle.std.specs.Prelude.{◌≡◌, ℕ, ◌+◌, ◌*◌, ◌/◌, ◌<◌, ◌≤◌, Bool, true, false, List, [], ◌++◌, length, take, drop, replicate, Decides, ◌≢◌, slice_index}
use Rattle.mitl.specs.declared.Row.{Row}
use Rattle.mitl.specs.declared.Row.TheVariants.{Rule}
use Rattle.mitl.specs.Formulas.{Formula, bit, Sat, sat, parts}
use Rattle.mitl.specs.Rows.{is_timed, row_at, Chained, Reads, read, formula_at, formula_of, formulas, rule_by, rule, verdict, RulesApart, scaled_rows}
use Rattle.mitl.specs.Outlook.{Marked, outlook, looked, from, to, row_from, row_to, RowMarked}
use Rattle.mitl.specs.Blocks.{row_after, advanced, Proper, row_outlook, row_looked, Foreseen, Steady}
use Rattle.mitl.specs.Runs.{Run, Cut, runs, ticks}
use Rattle.mitl.specs.Memory.{clean, stretches}

-- the test says what the quantifiers say
abbrev pub Decided : Type 0
Decided = (f : Formula) (h : List ℕ) (t : ℕ) → Decides (sat f h t) (Sat f h t)

-- the rows of a chain have one reading, that of the formulas which they build from those of their operands
pub record OneReading : Type 0 where
  pub built : (rows : List Row) → Chained rows → (k : ℕ) → k < length rows → formula_at (formulas rows) k ≡ formula_of (formulas rows) (row_at rows k)
  pub reads : (rows : List Row) (h : List ℕ) → Chained rows → Reads rows h (read rows h)
  pub only : (rows : List Row) (h : List ℕ) → Chained rows → (reading : ℕ → ℕ → Bool) → Reads rows h reading
      → (k : ℕ) → k < length rows → (t : ℕ) → reading k t ≡ read rows h k t

-- what is read at a tick does not depend on later ticks
pub record Settled : Type 0 where
  pub readings : (rows : List Row) (h later : List ℕ) (k t : ℕ) → t < length h → read rows (h ++ later) k t ≡ read rows h k t
  pub verdicts : (rows : List Row) (h later : List ℕ) (t : ℕ) → t < length h → verdict rows (h ++ later) t ≡ verdict rows h t

-- the verdict word has 16 bits, rule i in bit i, and 0 where there is no rule
pub record Worded : Type 0 where
  pub small : (rows : List Row) (h : List ℕ) (t : ℕ) → verdict rows h t < 65536
  pub bits : (rows : List Row) (h : List ℕ) (t i : ℕ) → i < 16 → bit i (verdict rows h t) ≡ rule rows h t i
  -- a word is known by its bits, so no other word has these
  pub known : (w x : ℕ) → w < 65536 → x < 65536 → ((i : ℕ) → i < 16 → bit i w ≡ bit i x) → w ≡ x
  pub only : (rows : List Row) (h : List ℕ) (t w : ℕ) → w < 65536 → ((i : ℕ) → i < 16 → bit i w ≡ rule rows h t i) → w ≡ verdict rows h t
  -- the bit of a rule is the reading of its left row
  pub ruled : (rows : List Row) → Chained rows → RulesApart rows → (k i l : ℕ) → k < length rows → row_at rows k ≡ Rule i l
      → i < 16 → (h : List ℕ) (t : ℕ) → bit i (verdict rows h t) ≡ read rows h l t
  -- a bit without a rule is 0
  pub bare : (rows : List Row) (i : ℕ) → ((k l : ℕ) → k < length rows → row_at rows k ≢ Rule i l) → (h : List ℕ) (t : ℕ) → bit i (verdict rows h t) ≡ false

-- each tick split into q parts, and every bound multiplied by q: every part is read as its tick is
pub record Split : Type 0 where
  pub words : (q : ℕ) → 1 ≤ q → (h : List ℕ) (p : ℕ) → slice_index (parts q h) p ≡ slice_index h (p / q)
  pub whole : (q : ℕ) (h : List ℕ) → length (parts q h) ≡ q * length h
  pub chained : (q : ℕ) (rows : List Row) → Chained rows → Chained (scaled_rows q rows)
  pub readings : (q : ℕ) → 1 ≤ q → (rows : List Row) (h : List ℕ) (p k : ℕ) → read (scaled_rows q rows) (parts q h) k p ≡ read rows h k (p / q)
  pub verdicts : (q : ℕ) → 1 ≤ q → (rows : List Row) (h : List ℕ) (p : ℕ) → verdict (scaled_rows q rows) (parts q h) p ≡ verdict rows h (p / q)

-- the outlook of a timed formula, and of a timed row through the reading of the rows
pub record Outlooks : Type 0 where
  pub tested : (f : Formula) (h : List ℕ) (d : ℕ) → Decides (outlook f h d) (Marked f h d)
  pub window : (rows : List Row) → Chained rows → (k : ℕ) → k < length rows → is_timed (row_at rows k) ≡ true
      → (from (formula_at (formulas rows) k) ≡ row_from (row_at rows k)) × (to (formula_at (formulas rows) k) ≡ row_to (row_at rows k))
  pub marked : (rows : List Row) → Chained rows → (h : List ℕ) (reading : ℕ → ℕ → Bool) → Reads rows h reading
      → (k : ℕ) → k < length rows → is_timed (row_at rows k) ≡ true → (d : ℕ) → Decides (row_outlook rows k h d) (RowMarked (row_at rows k) reading (length h) d)
  -- before the first tick all marks are no, and there are only b of them
  pub fresh : (f : Formula) → looked f [] ≡ clean (from f) (to f)
  pub ends : (f : Formula) (h : List ℕ) (d : ℕ) → to f ≤ d → outlook f h d ≡ false

-- no outlook of the window from a to b has more than n stretches of yes
abbrev pub BoundsStretches : ℕ → ℕ → ℕ → Type 0
BoundsStretches a b n = (f : Formula) (h : List ℕ) → from f ≡ a → to f ≡ b → stretches (outlook f h) b ≤ n

-- the marks tell the readings ahead over ticks with one word, and what the marks and the memories are after them
pub record Foretold : Type 0 where
  pub readings : (rows : List Row) → Chained rows → ((k : ℕ) → k < length rows → Proper (row_at rows k)) → (h : List ℕ) (n w : ℕ) (v : ℕ → Bool)
      → Foreseen rows h n w v → Steady rows h n w v (length rows)
  pub marks : (rows : List Row) → Chained rows → (h : List ℕ) (n w : ℕ) (v : ℕ → Bool) (k : ℕ) → k < length rows → is_timed (row_at rows k) ≡ true → 0 < n
      → Steady rows h n w v k → (d : ℕ) → row_outlook rows k (h ++ replicate n w) d ≡ row_after (row_at rows k) (row_outlook rows k h) v n d
  pub memories : (rows : List Row) → Chained rows → (h : List ℕ) (n w : ℕ) (v : ℕ → Bool) (k : ℕ) → k < length rows → is_timed (row_at rows k) ≡ true → 0 < n
      → Steady rows h n w v k → row_looked rows k (h ++ replicate n w) ≡ advanced (row_at rows k) v n (row_looked rows k h)
  -- the word made of the values is the verdict at each of these ticks
  pub verdicts : (rows : List Row) (h : List ℕ) (n w : ℕ) (v : ℕ → Bool) → Steady rows h n w v (length rows)
      → (x : ℕ) → x < 65536 → ((i : ℕ) → i < 16 → bit i x ≡ rule_by rows v i) → (u : ℕ) → length h ≤ u → u < length h + n → x ≡ verdict rows (h ++ replicate n w) u

-- a list of words has one cut into longest runs
pub record OneCut : Type 0 where
  pub cut : (ws : List ℕ) → Cut ws (runs ws)
  pub only : (ws : List ℕ) (rs : List Run) → Cut ws rs → rs ≡ runs ws
  pub covers : (ws : List ℕ) → ticks (runs ws) ≡ length ws
  -- the first p runs are the cut of the ticks they cover, and the runs after them that of the other ticks
  pub first : (p : ℕ) (ws : List ℕ) → Cut (take (ticks (take p (runs ws))) ws) (take p (runs ws))
  pub rest : (p : ℕ) (ws : List ℕ) → Cut (drop (ticks (take p (runs ws))) ws) (drop p (runs ws))
