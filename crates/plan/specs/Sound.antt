-- What every plan keeps. Names no Plan. Assumes nothing.
use Rattle.std.specs.Prelude.{◌≡◌, ℕ, ◌<◌, Bool, true, false, not, ◌&&◌, List, nat_le, nat_lt}
use Rattle.mitl.specs.declared.Row.{Row}
use Rattle.mitl.specs.declared.Row.TheVariants.{Input, Not, And, Or, Once, Always, Since, Rule}
use Rattle.mitl.specs.Rows.{row_at}
use Rattle.mitl.specs.Windows.{some_below, all_below, sound_window}

abbrev pub is_a_rule : Row → Bool
is_a_rule (Input i) = false
is_a_rule (Not l) = false
is_a_rule (And l r) = false
is_a_rule (Or l r) = false
is_a_rule (Once l a b) = false
is_a_rule (Always l a b) = false
is_a_rule (Since l r a b) = false
is_a_rule (Rule n l) = true

-- an operand of the row at place k: an earlier row that is no rule
abbrev pub operand_ok : List Row → ℕ → ℕ → Bool
operand_ok rows k l = nat_lt l k && not (is_a_rule (row_at rows l))

-- a row that may stand at place k after the rows before it
abbrev pub row_ok : List Row → ℕ → Row → Bool
row_ok rows k (Input i) = nat_lt i 32
row_ok rows k (Not l) = operand_ok rows k l
row_ok rows k (And l r) = operand_ok rows k l && operand_ok rows k r
row_ok rows k (Or l r) = operand_ok rows k l && operand_ok rows k r
row_ok rows k (Once l a b) = operand_ok rows k l && sound_window a b
row_ok rows k (Always l a b) = operand_ok rows k l && sound_window a b
row_ok rows k (Since l r a b) = (operand_ok rows k l && operand_ok rows k r) && sound_window a b
row_ok rows k (Rule n l) = nat_lt n 16 && operand_ok rows k l

abbrev pub EachOk : List Row → ℕ → Type 0
EachOk rows count = (k : ℕ) → k < count → row_ok rows k (row_at rows k) ≡ true

abbrev pub Ruled : List Row → ℕ → Type 0
Ruled rows count = some_below (λ k. is_a_rule (row_at rows k)) count ≡ true

-- rows of which the first `count` may be a plan
abbrev pub sound_rows : List Row → ℕ → Bool
sound_rows rows count =
    nat_le count 64 && (all_below (λ k. row_ok rows k (row_at rows k)) count && some_below (λ k. is_a_rule (row_at rows k)) count)
