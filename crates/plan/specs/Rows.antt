-- What a plan says, by its rows. Names Plan. Assumes nothing.
use Rattle.std.specs.Prelude.{ℕ, List, take}
use Rattle.mitl.specs.declared.Row.{Row}
use Rattle.plan.specs.declared.plan.Plan.{Plan}

-- the rows in use, along the chain
abbrev pub rows_of : Plan → List Row
rows_of p = take p.count p.rows

-- their numbers in the table
abbrev pub numbers_of : Plan → List ℕ
numbers_of p = take p.count p.numbers
