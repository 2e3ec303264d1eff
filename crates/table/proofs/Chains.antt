-- How long a chain is whose rows have no fault so far. Assumes nothing.
use Rattle.std.proofs.Common.{◌≡◌, ℕ, zero, suc, ◌+◌, ◌-◌, ◌*◌, ◌<◌, ◌≤◌, Bool, true, eqb, List, length, Some, None, sym, ap, ◌∙◌, inl, inr, arith}
use Rattle.std.proofs.lemmas.List.FromFn.{length-map-range_with_len, get_or-map-range_with_len}
use Rattle.std.proofs.lemmas.Bool.{eq-eqb, ne_eqb, cases_eq}
use Rattle.std.proofs.lemmas.Bool.Decides.{nat_tests}
use Rattle.mitl.specs.declared.Row.{Row}
use Rattle.mitl.specs.declared.Row.TheVariants.{Input}
use Rattle.mitl.specs.Rows.{row_at}
use Rattle.plan.specs.Sound.{row_ok}
use Rattle.plan.proofs.Found.{lost_from}
use Rattle.table.specs.Faults.{row_of}
use Rattle.table.specs.Chain.{on_chain, letter_at, fields_at, row_in, numbers_before, rows_before, chain_length, head_faults, row_faults}
use Rattle.table.specs.Layout.{rows_told, first_told}
use Rattle.refusal.specs.Faults.{first_fault}
use Rattle.table.specs.declared.row.Letter.{Letter}
use Rattle.table.proofs.Distinct.{few_distinct}
use Rattle.table.proofs.Fine.{Fine, fine_of, row_fine}
use Rattle.refusal.proofs.Firsts.{none_held}
use Rattle.table.proofs.Numbers.{first_is, first_past}

pub record Headed (t : List ℕ) : Type 0 where
  pub few_rows : rows_told t ≤ 64
  pub some_first : 1 ≤ first_told t
  pub low_first : first_told t ≤ rows_told t
  pub long : length t ≡ 8 + 16 * rows_told t

pub headed : (t : List ℕ) → first_fault (head_faults t) ≡ None → Headed t
headed t e =
    let all = none_held (head_faults t) e in
    let right = all.1.1.0 in
    let size = all.1.1.1.0 in
    record {
      few_rows = grind (arith, nat_tests);
      some_first = grind (arith, nat_tests);
      low_first = grind (arith, nat_tests);
      long = grind (arith, nat_tests);
    }

module _ (admits : ℕ → ℕ → Bool) (t : List ℕ) where
  -- what the row at place k, without a fault, is known for
  pub fine_at : (k : ℕ) → first_fault (row_faults admits t k) ≡ None
      → (c : Letter) × (letter_at t k ≡ Some c) × Fine (rows_told t) (numbers_before t k) (rows_before t k) (on_chain t k) c (fields_at t k)
  fine_at k e = fine_of admits (rows_told t) (numbers_before t k) (rows_before t k) (on_chain t k) (letter_at t k) (fields_at t k) e

  -- rows that are those of a chain without a fault may each stand at their places of a plan
  pub row_stands : (rows : List Row) (n : ℕ) → ((k : ℕ) → k < n → first_fault (row_faults admits t k) ≡ None) → ((k : ℕ) → k < n → row_at rows k ≡ row_in t k)
      → (k : ℕ) → k < n → row_ok rows k (row_at rows k) ≡ true
  row_stands rows n fine same k l =
      let f = fine_at k (fine k l) in
      let ns = numbers_before t k in
      let before : (j : ℕ) → j < k → row_at rows j ≡ row_at (rows_before t k) j =
      λ j m. same j (omega arith) ∙ sym (get_or-map-range_with_len (row_in t) 0 k j j (Input 0) m (omega arith)) in
      ap (row_ok rows k) (same k l ∙ ap (λ o. row_of ns o (fields_at t k)) f.1)
      ∙ row_fine ns (rows_before t k) rows k (length-map-range_with_len (on_chain t) 0 k) before (rows_told t) (on_chain t k) f.0 (fields_at t k) f.2

  module _ (h : Headed t) (n : ℕ) (fine : (k : ℕ) → k < n → first_fault (row_faults admits t k) ≡ None) where
    pub low_at : (k : ℕ) → k ≤ n → on_chain t k ≤ rows_told t
    low_at zero l = h.low_first
    low_at (suc k) l = (fine_at k (fine k (omega arith))).2.within

    pub apart_at : (j k : ℕ) → j < k → k ≤ n → on_chain t j ≡ on_chain t k → ⊥
    apart_at j zero l m e = omega arith
    apart_at j (suc k) l m e =
        let f = (fine_at k (fine k (omega arith))).2 in
        elim (cases_eq j k) [
          | inl same ↦ f.on (sym e ∙ ap (on_chain t) same)
          | inr other ↦
              lost_from 0 (numbers_before t k) (on_chain t (suc k)) f.fresh j
              (omega (arith, length-map-range_with_len (on_chain t) 0 k))
              (get_or-map-range_with_len (on_chain t) 0 k j j 0 (omega arith) (omega arith) ∙ e)
        ]

    -- no row is taken twice, so there are never more than the table has
    pub room_at : ((k : ℕ) → k ≤ n → on_chain t k ≡ 0 → ⊥) → n < rows_told t
    room_at met =
        few_distinct (λ k. on_chain t k - 1) (rows_told t) (suc n)
        (λ k l. omega (arith, low_at k (omega arith), met k (omega arith)))
        (λ j k l m e. apart_at j k l (omega arith) (omega (arith, met j (omega arith), met k (omega arith))))

-- the chain is longer than n rows
pub longer : (t : List ℕ) (n : ℕ) → n ≤ 64 → ((k : ℕ) → k ≤ n → on_chain t k ≡ 0 → ⊥) → n < chain_length t
unfolding chain_length
longer t n few met =
    let past = first_past (λ i. eqb (fields_at t i).next 0) 0 64 n (omega arith) (omega arith) (λ k _ l. ne_eqb (on_chain t (suc k)) 0 (met (suc k) (omega arith))) in
    omega arith

-- the chain has n rows
pub ends_at : (t : List ℕ) (n : ℕ) → Headed t → n ≤ 64 → ((k : ℕ) → k < n → on_chain t k ≡ 0 → ⊥) → on_chain t n ≡ 0 → n ≡ chain_length t
unfolding chain_length
ends_at t zero h few met end = omega (arith, h.some_first)
ends_at t (suc n) h few met end =
    ap suc (sym (first_is (λ i. eqb (fields_at t i).next 0) 0 64 n (omega arith) (omega arith) (λ k _ l. ne_eqb (on_chain t (suc k)) 0 (met (suc k) (omega arith))) (eq-eqb (on_chain t (suc n)) 0 end)))
