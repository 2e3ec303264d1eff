-- The rows of a sound table meet the premises of the laws of past MITL. Assumes nothing.
use Rattle.std.proofs.Common.{◌≡◌, ℕ, ◌<◌, Bool, true, false, ◌&&◌, eqb, List, length, sym, refl, ap, ◌∙◌, subst, inl, inr, arith}
use Rattle.std.proofs.lemmas.List.FromFn.{length-map-range_with_len, get_or-map-range_with_len}
use Rattle.std.proofs.lemmas.Bool.{cases_lt, cases_eq, eq-eqb, both_ways}
use Rattle.std.proofs.lemmas.Bool.Decides.{nat_tests}
use Rattle.mitl.specs.declared.Row.TheVariants.{Input, Rule}
use Rattle.mitl.specs.Rows.{row_at, is_rule}
use Rattle.plan.proofs.Earlier.{row_earlier, row_proper}
use Rattle.table.specs.Chain.{on_chain, fields_at, letter_at, numbers_before, row_in, rows_before, rows_in, chain_length}
use Rattle.table.specs.Faults.{rule_used}
use Rattle.table.specs.Laws.{Clear, RowsFit}
use Rattle.table.specs.Layout.{rows_told}
use Rattle.table.specs.Letters.{letter_from}
use Rattle.table.proofs.Chains.{row_stands}
use Rattle.table.proofs.Fine.{unused_of}
use Rattle.table.proofs.Said.{said, rule_number_is}

module _ (admits : ℕ → ℕ → Bool) (t : List ℕ) (clear : Clear admits t (chain_length t)) where
  size : length (rows_in t) ≡ chain_length t
  size = length-map-range_with_len (row_in t) 0 (chain_length t)

  row_here : (k : ℕ) → k < chain_length t → row_at (rows_in t) k ≡ row_in t k
  row_here k l = get_or-map-range_with_len (row_in t) 0 (chain_length t) k k (Input 0) l (omega arith)

  -- an R row of the table
  ruled_at : (k i l : ℕ) → k < chain_length t → row_at (rows_in t) k ≡ Rule i l → ((fields_at t k).letter ≡ 82) × ((fields_at t k).number ≡ i)
  ruled_at k i l m is =
      let tested : (eqb (fields_at t k).letter 82 && eqb i (fields_at t k).number) ≡ true =
      sym (rule_number_is (numbers_before t k) (fields_at t k) i (fields_at t k).letter) ∙ ap (is_rule i) (sym (row_here k m) ∙ is) ∙ eq-eqb i i refl in
      (grind (arith, nat_tests), grind (arith, nat_tests))

  -- of two R rows of one number the second would be refused
  later : (i j k l m : ℕ) → j < k → k < chain_length t → row_at (rows_in t) j ≡ Rule i l → row_at (rows_in t) k ≡ Rule i m → ⊥
  later i j k l m less within first second =
      let a = ruled_at j i l (omega arith) first in
      let b = ruled_at k i m within second in
      let used : rule_used (rows_before t k) i ≡ true = ((said t k).used i).1 (j, less, a.0, a.1) in
      let free = unused_of admits (rows_told t) (numbers_before t k) (rows_before t k) (on_chain t k) (letter_at t k) (fields_at t k) (ap letter_from b.0) (clear k within) in
      both_ways (rule_used (rows_before t k) i) (subst (λ n. rule_used (rows_before t k) n ≡ false) b.1 free) used

  pub rows_fit : RowsFit t
  rows_fit = record {
    chained = λ k l. row_earlier (rows_in t) k k (omega arith) (row_at (rows_in t) k) (row_stands admits t (rows_in t) (chain_length t) clear row_here k (omega (arith, size)));
    proper = λ k l. row_proper (rows_in t) k (row_at (rows_in t) k) (row_stands admits t (rows_in t) (chain_length t) clear row_here k (omega (arith, size)));
    rules_apart = λ i j k l m low high first second.
        elim (cases_lt j k) [
          | inl less ↦ absurd (later i j k l m less (omega (arith, size)) first second)
          | inr more ↦
              elim (cases_eq j k) [
                | inl same ↦ same
                | inr other ↦ (let less : k < j = omega arith in absurd (later i k j m l less (omega (arith, size)) second first))
              ]
        ];
  }
