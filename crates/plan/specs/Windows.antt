-- The window of a row. Assumes nothing.
use Rattle.std.specs.Prelude.{◌≡◌, ℕ, true, false, Some, None, Option}
use Rattle.mitl.specs.declared.Row.{Row}
use Rattle.mitl.specs.Outlook.{row_from, row_to}
use Rattle.mitl.specs.Rows.{is_timed}

-- a timed row's window
abbrev pub WindowOf : Row → Option (ℕ × ℕ) → Type 0
WindowOf r None = is_timed r ≡ false
WindowOf r (Some (a, b)) = (is_timed r ≡ true) × (a ≡ row_from r) × (b ≡ row_to r)
