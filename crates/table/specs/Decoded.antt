-- What decoding a table replies. Assumes nothing.
use Rattle.std.specs.Prelude.{◌≡◌, ℕ, ◌-◌, Bool, List, drop, replicate, Some, None, Ok, Err, Result}
use Rattle.mitl.specs.declared.Row.TheVariants.{Input}
use Rattle.plan.specs.declared.plan.Plan.{Plan}
use Rattle.plan.specs.Rows.{rows_of, numbers_of}
use Rattle.table.specs.declared.fault.TableFault.{TableFault}
use Rattle.table.specs.Chain.{table_refusal, chain_length, rows_in, numbers_in}
use Rattle.table.specs.Refusals.{of_table}

-- p is the plan of the table t: the rows of its chain with their numbers, and nothing else
pub record PlanOf (t : List ℕ) (p : Plan) : Type 0 where
  pub count : p.count ≡ chain_length t
  pub rows : rows_of p ≡ rows_in t
  pub numbers : numbers_of p ≡ numbers_in t
  pub idle_rows : drop p.count p.rows ≡ replicate (64 - p.count) (Input 0)
  pub idle_numbers : drop p.count p.numbers ≡ replicate (64 - p.count) 0

-- The reply to a table: its refusal, or its plan where it has none.
abbrev pub Decoded : (ℕ → ℕ → Bool) → List ℕ → Result Plan TableFault → Type 0
Decoded admits t (Ok p) = (table_refusal admits t ≡ None) × PlanOf t p
Decoded admits t (Err f) = table_refusal admits t ≡ Some (of_table f)
