-- What the steps of decoding reply, for the functions inside. Assumes nothing.
use Rattle.std.specs.Prelude.{◌≡◌, ℕ, ◌<◌, Bool, true, false, cond, List, ◌==◌, Some, None, Ok, Err, Option, Result}
use Rattle.mitl.specs.declared.Row.{Row}
use Rattle.table.specs.declared.draft.Draft.{Draft}
use Rattle.table.specs.declared.Head.{Head}
use Rattle.table.specs.declared.fault.RowFault.{RowFault}
use Rattle.table.specs.declared.fault.TableFault.{TableFault}
use Rattle.table.specs.declared.row.Entry.{Entry}
use Rattle.table.specs.declared.row.Step.{Step}
use Rattle.table.specs.Chain.{head_faults, row_faults, chain_faults, chain_length, rows_before, numbers_before}
use Rattle.table.specs.Drafts.{taken_rows, taken_numbers}
use Rattle.table.specs.Faults.{operands_right, faults_as, faults_of, row_as, row_of}
use Rattle.table.specs.Layout.{fields_of, rows_told, first_told}
use Rattle.table.specs.Letters.{letter_from}
use Rattle.refusal.specs.Faults.{first_fault}
use Rattle.table.specs.Refusals.{of_row, of_table}

-- the row that a next names: none where it is zero
abbrev pub named : ℕ → Option ℕ
named n = cond (n == 0) None (Some n)

-- what a row says, where its operands are right
abbrev pub Meant : Draft → Entry → Option Row → Type 0
Meant d e None = operands_right (taken_numbers d) (taken_rows d) e.letter e.fields ≡ false
Meant d e (Some x) =
    (operands_right (taken_numbers d) (taken_rows d) e.letter e.fields ≡ true) × (x ≡ row_as (taken_numbers d) e.letter e.fields)

module _ (admits : ℕ → ℕ → Bool) (told : ℕ) (d : Draft) where
  -- the first fault of row r with a known letter, or what it says where it has none
  abbrev pub Judged : ℕ → Entry → Result Row RowFault → Type 0
  Judged r e (Ok x) =
      (first_fault (faults_as admits told (taken_numbers d) (taken_rows d) r e.letter e.fields) ≡ None)
      × (x ≡ row_as (taken_numbers d) e.letter e.fields)
  Judged r e (Err f) = first_fault (faults_as admits told (taken_numbers d) (taken_rows d) r e.letter e.fields) ≡ Some (of_row f)

  -- the first fault of row r of the table t, or what it says and which row is next
  abbrev pub Stepped : List ℕ → ℕ → Result Step RowFault → Type 0
  Stepped t r (Ok s) =
      (first_fault (faults_of admits told (taken_numbers d) (taken_rows d) r (letter_from (fields_of t r).letter) (fields_of t r)) ≡ None)
      × (s.row ≡ row_of (taken_numbers d) (letter_from (fields_of t r).letter) (fields_of t r))
      × (s.next ≡ named (fields_of t r).next)
  Stepped t r (Err f) =
      first_fault (faults_of admits told (taken_numbers d) (taken_rows d) r (letter_from (fields_of t r).letter) (fields_of t r)) ≡ Some (of_row f)

-- the first fault of its head, or what the head tells where it has none
abbrev pub Opened : List ℕ → Result Head TableFault → Type 0
Opened t (Ok h) = (first_fault (head_faults t) ≡ None) × (h.told ≡ rows_told t) × (h.first ≡ first_told t)
Opened t (Err f) = first_fault (head_faults t) ≡ Some (of_table f)

-- d holds the rows of the chain of t with their numbers
pub record DraftOf (admits : ℕ → ℕ → Bool) (t : List ℕ) (d : Draft) : Type 0 where
  pub count : d.count ≡ chain_length t
  pub rows : taken_rows d ≡ rows_before t d.count
  pub numbers : taken_numbers d ≡ numbers_before t d.count
  pub each : (k : ℕ) → k < d.count → first_fault (row_faults admits t k) ≡ None

-- the first fault of its rows, or the chain where they have none
abbrev pub Walked : (ℕ → ℕ → Bool) → List ℕ → Result Draft RowFault → Type 0
Walked admits t (Ok d) = (first_fault (chain_faults admits t) ≡ None) × DraftOf admits t d
Walked admits t (Err e) = first_fault (chain_faults admits t) ≡ Some (of_row e)
