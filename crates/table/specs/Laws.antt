-- A table's refusal and its chain, by quantifiers over the places of the chain. Assumes nothing.
use Rattle.std.specs.Prelude.{◌≡◌, ℕ, suc, ◌<◌, ◌≤◌, Bool, true, false, List, length, is_some, Some, None, Ok, Err, Decides, Result, ◌≢◌}
use Rattle.mitl.specs.Blocks.{Proper}
use Rattle.mitl.specs.Rows.{row_at, Chained, RulesApart}
use Rattle.plan.specs.declared.plan.Plan.{Plan}
use Rattle.plan.specs.Places.{place_among_lem}
use Rattle.plan.specs.Sound.{is_a_rule}
use Rattle.refusal.specs.declared.Refusal.{Refusal}
use Rattle.table.specs.declared.fault.TableFault.{TableFault}
use Rattle.table.specs.Chain.{on_chain, fields_at, row_in, numbers_before, rows_before, rows_in, chain_length, head_faults, row_faults, table_refusal}
use Rattle.table.specs.Decoded.{Decoded}
use Rattle.table.specs.Faults.{operand_place, place_in, rule_used}
use Rattle.table.specs.Layout.{fields_of, rows_told}
use Rattle.refusal.specs.Faults.{first_fault, refusal}
use Rattle.table.specs.Refusals.{of_table}

-- what the tests on the rows before place i say of the chain and of the bytes
pub record ReadAsSaid (t : List ℕ) (i : ℕ) : Type 0 where
  -- row n stands on the chain before place i
  pub stands : (n : ℕ) → Decides (is_some (place_among_lem (numbers_before t i) n)) ((k : ℕ) × (k < i) × (on_chain t k ≡ n))
  -- and its place is one at which it stands
  pub place : (n : ℕ) → is_some (place_among_lem (numbers_before t i) n) ≡ true
      → (place_in (numbers_before t i) n < i) × (on_chain t (place_in (numbers_before t i) n) ≡ n)
  -- it may be an operand: its letter is not R
  pub operand : (n : ℕ) → Decides (is_some (operand_place (numbers_before t i) (rows_before t i) n))
      (((k : ℕ) × (k < i) × (on_chain t k ≡ n)) × ((fields_of t n).letter ≢ 82))
  -- a row before place i has the letter R and the number n
  pub used : (n : ℕ) → Decides (rule_used (rows_before t i) n)
      ((k : ℕ) × (k < i) × ((fields_at t k).letter ≡ 82) × ((fields_at t k).number ≡ n))

module _ (admits : ℕ → ℕ → Bool) (t : List ℕ) where
  -- the first n rows of the chain have no fault
  abbrev pub Clear : ℕ → Type 0
  Clear n = (k : ℕ) → k < n → first_fault (row_faults admits t k) ≡ None

  -- each of the first n rows has a next
  abbrev pub GoesOn : ℕ → Type 0
  GoesOn n = (k : ℕ) → k < n → on_chain t (suc k) ≢ 0

  -- when a table is refused, and with what, and when it is sound
  pub record Told : Type 0 where
    pub head : (r : Refusal) → first_fault (head_faults t) ≡ Some r → table_refusal admits t ≡ Some r
    pub row : first_fault (head_faults t) ≡ None → (i : ℕ) → Clear i → GoesOn i
        → (r : Refusal) → first_fault (row_faults admits t i) ≡ Some r → table_refusal admits t ≡ Some r
    pub no_rule : first_fault (head_faults t) ≡ None → (i : ℕ) → Clear (suc i) → GoesOn i → on_chain t (suc i) ≡ 0
        → ((k : ℕ) → k ≤ i → is_a_rule (row_in t k) ≡ false) → table_refusal admits t ≡ Some (refusal 11 0)
    pub sound : first_fault (head_faults t) ≡ None → (i : ℕ) → Clear (suc i) → GoesOn i → on_chain t (suc i) ≡ 0
        → (k : ℕ) → k ≤ i → is_a_rule (row_in t k) ≡ true → (table_refusal admits t ≡ None) × (chain_length t ≡ suc i)

  -- the chain of a sound table ends, and takes no row twice
  pub record ChainEnds : Type 0 where
    pub few : chain_length t ≤ rows_told t
    pub ends : on_chain t (chain_length t) ≡ 0
    pub within : (k : ℕ) → k < chain_length t → (1 ≤ on_chain t k) × (on_chain t k ≤ rows_told t)
    pub apart : (j k : ℕ) → j < k → k < chain_length t → on_chain t j ≢ on_chain t k

-- the rows of the chain meet the premises of the laws of past MITL: operands on earlier rows, windows that do not end
-- before they start, and no two rules with one number
pub record RowsFit (t : List ℕ) : Type 0 where
  pub chained : Chained (rows_in t)
  pub proper : (k : ℕ) → k < length (rows_in t) → Proper (row_at (rows_in t) k)
  pub rules_apart : RulesApart (rows_in t)

-- the same plan, or the same refusal
abbrev pub SameReply : Result Plan TableFault → Result Plan TableFault → Type 0
SameReply (Ok p) (Ok q) = (p.rows ≡ q.rows) × (p.numbers ≡ q.numbers) × (p.count ≡ q.count)
SameReply (Ok p) (Err g) = ⊥
SameReply (Err f) (Ok q) = ⊥
SameReply (Err f) (Err g) = of_table f ≡ of_table g

pub record TablesTold : Type 0 where
  pub said : (t : List ℕ) (i : ℕ) → ReadAsSaid t i
  pub told : (admits : ℕ → ℕ → Bool) (t : List ℕ) → Told admits t
  pub chained : (admits : ℕ → ℕ → Bool) (t : List ℕ) → table_refusal admits t ≡ None → ChainEnds admits t
  pub one_reply : (admits : ℕ → ℕ → Bool) (t : List ℕ) (r s : Result Plan TableFault) → Decoded admits t r → Decoded admits t s → SameReply r s
