-- What the memories of one car mean. Assumes nothing.
use Rattle.std.specs.Prelude.{◌≡◌, ℕ, ◌<◌, ◌≤◌, true, List, length, slice_index_or}
use Rattle.mitl.specs.declared.Row.{Row}
use Rattle.mitl.specs.Memory.{Meaning}
use Rattle.mitl.specs.Outlook.{looked}
use Rattle.mitl.specs.Rows.{row_at, is_timed, timed_before, timed_rows, formula_at, formulas}

-- The part ms has a memory for each timed row, in the order of the chain, and each means its row's window and the
-- outlook that the history h gives that row.
pub record Means {X : Type 0} (meaning : X → Meaning) (rows : List Row) (ms : List X) (h : List ℕ) : Type 0 where
  pub enough : timed_rows rows ≤ length ms
  pub outlooks : (p : ℕ) (m : X) → p < length rows → is_timed (row_at rows p) ≡ true → meaning (slice_index_or ms (timed_before rows p) m) ≡ looked (formula_at (formulas rows) p) h

-- the first n memories mean f of what they meant; those past them stay
pub record Changed {X : Type 0} (meaning : X → Meaning) (f : Meaning → Meaning) (n : ℕ) (xs ys : List X) : Type 0 where
  pub there : (i : ℕ) (z : X) → i < n → i < length xs → meaning (slice_index_or ys i z) ≡ f (meaning (slice_index_or xs i z))
  pub past : (i : ℕ) (z : X) → n ≤ i → slice_index_or ys i z ≡ slice_index_or xs i z
