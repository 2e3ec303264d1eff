-- The lines that are printed of a plan. Assumes nothing.
use Rattle.std.specs.Prelude.{ℕ, List, ◌++◌, codes, decimal}
use Rattle.mitl.specs.declared.Row.{Row}
use Rattle.mitl.specs.declared.Row.TheVariants.{Input, Not, And, Or, Once, Always, Since, Rule}
use Rattle.plan.specs.declared.Counts.{Counts}
use Rattle.tablelist.specs.declared.Line.{Line}

-- how many rows there are, of each sort
abbrev pub heading_text : Counts → List ℕ
heading_text c = codes "rows on the chain: " ++ (decimal c.rows ++ (codes ", rules: " ++ (decimal c.rules ++ (codes ", timed rows: " ++ decimal c.timed))))

-- a row by its number
abbrev pub row_text : ℕ → List ℕ
row_text n = codes "row " ++ decimal n

-- a window, in ticks before now
abbrev pub window_text : ℕ → ℕ → List ℕ
window_text a b = codes " from " ++ (decimal a ++ (codes " to " ++ (decimal b ++ codes " ticks ago")))

-- what a row says of its operands
abbrev pub says : Row → List ℕ
says (Input i) = codes "input " ++ decimal i
says (Not l) = codes "not " ++ row_text l
says (And l r) = row_text l ++ (codes " and " ++ row_text r)
says (Or l r) = row_text l ++ (codes " or " ++ row_text r)
says (Once l a b) = row_text l ++ (codes " at some time" ++ window_text a b)
says (Always l a b) = row_text l ++ (codes " all the time" ++ window_text a b)
says (Since l r a b) = row_text l ++ (codes " ever since " ++ (row_text r ++ (codes " at some time" ++ window_text a b)))
says (Rule i l) = codes "rule " ++ (decimal i ++ (codes " is " ++ row_text l))

abbrev pub line_text : Line → List ℕ
line_text l = row_text l.number ++ (codes ": " ++ says l.row)
