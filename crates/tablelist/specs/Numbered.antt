-- Rows whose operands are numbers of rows in the table. Assumes nothing.
use Rattle.std.specs.Prelude.{◌≡◌, ℕ, ◌<◌, List, slice_index}
use Rattle.mitl.specs.declared.Row.{Row}
use Rattle.mitl.specs.declared.Row.TheVariants.{Input, Not, And, Or, Once, Always, Since, Rule}
use Rattle.mitl.specs.Rows.{row_at}
use Rattle.plan.specs.declared.plan.Plan.{Plan}
use Rattle.tablelist.specs.declared.Line.{Line}

-- each operand's place on the chain replaced by its number
abbrev pub numbered : List ℕ → Row → Row
numbered ns (Input i) = Input i
numbered ns (Not l) = Not (slice_index ns l)
numbered ns (And l r) = And (slice_index ns l) (slice_index ns r)
numbered ns (Or l r) = Or (slice_index ns l) (slice_index ns r)
numbered ns (Once l a b) = Once (slice_index ns l) a b
numbered ns (Always l a b) = Always (slice_index ns l) a b
numbered ns (Since l r a b) = Since (slice_index ns l) (slice_index ns r) a b
numbered ns (Rule i l) = Rule i (slice_index ns l)

-- the row with number n stands at place k of the chain
abbrev pub Stands : Plan → ℕ → ℕ → Row → Type 0
Stands p k n row = (k < p.count) × (n ≡ slice_index p.numbers k) × (row ≡ row_at p.rows k)

-- the line of the row at a place of the chain
abbrev pub line_of : Plan → ℕ → Line
line_of p k = record { number = slice_index p.numbers k; row = numbered p.numbers (row_at p.rows k) }
