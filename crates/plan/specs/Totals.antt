-- How many rows of each sort a chain has. Assumes nothing.
use Rattle.std.specs.Prelude.{ℕ, List, length, count_by}
use Rattle.mitl.specs.declared.Row.{Row}
use Rattle.mitl.specs.Rows.{timed_rows}
use Rattle.plan.specs.Sound.{is_a_rule}
use Rattle.plan.specs.declared.Counts.{Counts}

abbrev pub rule_rows : List Row → ℕ
rule_rows rows = count_by is_a_rule rows

abbrev pub counts_of : List Row → Counts
counts_of rows = record { rows = length rows; rules = rule_rows rows; timed = timed_rows rows }
