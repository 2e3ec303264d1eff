-- What was taken from the front of a chain. Assumes nothing.
use Rattle.std.specs.Prelude.{ℕ, List, take}
use Rattle.mitl.specs.declared.Row.{Row}
use Rattle.table.specs.declared.draft.Draft.{Draft}

-- the rows that were taken, along the chain
abbrev pub taken_rows : Draft → List Row
taken_rows d = take d.count d.rows

-- their numbers in the table
abbrev pub taken_numbers : Draft → List ℕ
taken_numbers d = take d.count d.numbers
