-- A table's chain: its rows place by place, and the first fault along it. Assumes nothing.
use Rattle.std.specs.Prelude.{ℕ, zero, suc, ◌+◌, ◌*◌, Bool, cond, not, ◌&&◌, List, [], ◌∷◌, ◌++◌, map, length, Option, ◌==◌, nat_eq, nat_le, nat_lt}
use Rattle.std.specs.List.{range_with_len, flat_map}
use Rattle.mitl.specs.declared.Row.{Row}
use Rattle.mitl.specs.Windows.{some_below}
use Rattle.plan.specs.Sound.{is_a_rule}
use Rattle.refusal.specs.declared.Refusal.{Refusal}
use Rattle.table.specs.declared.row.Fields.{Fields}
use Rattle.table.specs.declared.row.Letter.{Letter}
use Rattle.table.specs.Faults.{faults_of, row_of}
use Rattle.table.specs.Layout.{byte_at, rows_told, first_told, fields_of}
use Rattle.table.specs.Letters.{letter_from}
use Rattle.refusal.specs.Faults.{Fault, fault, first_fault}

-- The number of the row at place i of the chain: the first row, and then the next of the row before. Zero after its end.
abbrev pub on_chain : List ℕ → ℕ → ℕ
on_chain t zero = first_told t
on_chain t (suc i) = (fields_of t (on_chain t i)).next

abbrev pub fields_at : List ℕ → ℕ → Fields
fields_at t i = fields_of t (on_chain t i)

abbrev pub letter_at : List ℕ → ℕ → Option Letter
letter_at t i = letter_from (fields_at t i).letter

-- the numbers of the first i rows of the chain
abbrev pub numbers_before : List ℕ → ℕ → List ℕ
numbers_before t i = map (on_chain t) (range_with_len 0 i)

-- what the row at place i says
abbrev pub row_in : List ℕ → ℕ → Row
row_in t i = row_of (numbers_before t i) (letter_at t i) (fields_at t i)

abbrev pub rows_before : List ℕ → ℕ → List Row
rows_before t i = map (row_in t) (range_with_len 0 i)

-- the first number below n, from i on, at which p holds; n where there is none
abbrev pub first_from : (ℕ → Bool) → ℕ → ℕ → ℕ
first_from p i zero = i
first_from p i (suc n) = cond (p i) i (first_from p (suc i) n)

-- How many rows the chain has: the place of its last row is the first whose next is zero. No sound chain has more
-- than 64. Shut, since it computes to 64 tests.
unfoldable pub chain_length : List ℕ → ℕ
chain_length t = suc (first_from (λ i. nat_eq (fields_at t i).next 0) 0 64)

abbrev pub numbers_in : List ℕ → List ℕ
numbers_in t = numbers_before t (chain_length t)

abbrev pub rows_in : List ℕ → List Row
rows_in t = rows_before t (chain_length t)

abbrev pub ruled : List ℕ → Bool
ruled t = some_below (λ i. is_a_rule (row_in t i)) (chain_length t)

-- the first four bytes
abbrev pub marked : List ℕ → Bool
marked t = byte_at t 0 == 76 && (byte_at t 1 == 87 && (byte_at t 2 == 82 && byte_at t 3 == 84))

-- a row count of 1 to 64, a first row within it, and two zero bytes
abbrev pub right_head : ℕ → ℕ → ℕ → ℕ → Bool
right_head told first z z' = (nat_le 1 told && nat_le told 64) && ((nat_le 1 first && nat_le first told) && (z == 0 && z' == 0))

-- the faults of the head, in the order in which they are told
abbrev pub head_faults : List ℕ → List Fault
head_faults t =
    fault (nat_lt (length t) 8) 1 0
    ∷ (fault (not (marked t)) 2 0
    ∷ (fault (not (right_head (rows_told t) (first_told t) (byte_at t 6) (byte_at t 7))) 3 0
    ∷ (fault (not (length t == 8 + 16 * rows_told t)) 1 0
    ∷ [])))

module _ (admits : ℕ → ℕ → Bool) where
  -- the faults of the row at place i
  abbrev pub row_faults : List ℕ → ℕ → List Fault
  row_faults t i =
      faults_of admits (rows_told t) (numbers_before t i) (rows_before t i) (on_chain t i) (letter_at t i) (fields_at t i)

  -- those of each row along the chain
  abbrev pub chain_faults : List ℕ → List Fault
  chain_faults t = flat_map (row_faults t) (range_with_len 0 (chain_length t))

  -- All faults, in the order in which they are told: the head's, the rows', and a chain without a rule.
  abbrev pub table_faults : List ℕ → List Fault
  table_faults t = head_faults t ++ (chain_faults t ++ (fault (not (ruled t)) 11 0 ∷ []))

  -- The refusal of a table: that of its first fault. A sound table has none.
  unfoldable pub table_refusal : List ℕ → Option Refusal
  table_refusal t = first_fault (table_faults t)
