-- The tests of the first rows, made on these rows alone. Assumes nothing.
use Rattle.std.proofs.Common.{◌≡◌, ℕ, ◌<◌, ◌≤◌, Bool, ltb, not, ◌&&◌, List, length, get_or, take, refl, ap, ap₂, ◌∙◌, sym, inl, inr, zero-add, arith}
use Rattle.std.specs.List.{list_all, list_any, enumerate_from}
use Rattle.std.proofs.lemmas.Bool.{cases_Bool, ltb-true}
use Rattle.std.specs.Cmp.{both_ways}
use Rattle.std.proofs.lemmas.List.{get_or-take, length-take-le, take-take}
use Rattle.std.proofs.lemmas.List.FromFn.{length-enumerate_from, get_or-enumerate_from}
use Rattle.std.proofs.lemmas.List.Recursion.{and_at, and_from_places, or_is}
use Rattle.mitl.specs.declared.Row.{Row}
use Rattle.mitl.specs.declared.Row.TheVariants.{Input, Not, And, Or, Once, Always, Since, Rule}
use Rattle.mitl.specs.Rows.{row_at}
use Rattle.mitl.specs.Windows.{all_below, some_below, sound_window}
use Rattle.plan.specs.Sound.{is_a_rule, operand_ok, row_ok}
use Rattle.plan.proofs.Below.{all_at, all_from, some_at, none_at}

-- what stands from place n on does not matter to a row at place k
module _ (rows : List Row) (n k : ℕ) (le : k ≤ n) where
  operand_cut : (l : ℕ) → operand_ok (take n rows) k l ≡ operand_ok rows k l
  operand_cut l =
      elim (cases_Bool (ltb l k)) [
        | inl y ↦ ap (λ r. ltb l k && not (is_a_rule r)) (get_or-take n rows l (Input 0) (omega (arith, ltb-true l k y)))
        | inr off ↦ rw off
      ]

  row_cut : (r : Row) → row_ok (take n rows) k r ≡ row_ok rows k r
  row_cut (Input i) = refl
  row_cut (Not l) = operand_cut l
  row_cut (And l r) = ap₂ ◌&&◌ (operand_cut l) (operand_cut r)
  row_cut (Or l r) = ap₂ ◌&&◌ (operand_cut l) (operand_cut r)
  row_cut (Once l a b) = ap (λ t. t && sound_window a b) (operand_cut l)
  row_cut (Always l a b) = ap (λ t. t && sound_window a b) (operand_cut l)
  row_cut (Since l r a b) = ap (λ t. t && sound_window a b) (ap₂ ◌&&◌ (operand_cut l) (operand_cut r))
  row_cut (Rule i l) = ap (λ t. ltb i 16 && t) (operand_cut l)

module _ (rows : List Row) (n : ℕ) (le : n ≤ length rows) where
  stands : ℕ × Row → Bool
  stands x = row_ok (take x.0 (take n rows)) (length (take x.0 (take n rows))) x.1

  -- the k-th of the rows that are gone through stands as the row at place k does
  stands_at : (k : ℕ) → k < n → stands (get_or (enumerate_from 0 (take n rows)) k (0, Input 0)) ≡ row_ok rows k (row_at rows k)
  unfolding stands
  stands_at k h =
      let many = length-take-le n rows le in
      let here = get_or-enumerate_from 0 (take n rows) k (0, Input 0) (omega arith) in
      rw (here, zero-add, take-take k n rows (omega arith), length-take-le k rows (omega arith), get_or-take n rows k (Input 0) h) (row_cut rows k k (omega arith) (row_at rows k))

  pub each_cut : list_all (λ (k, row). row_ok (take k (take n rows)) (length (take k (take n rows))) row) (enumerate_from 0 (take n rows)) ≡ all_below (λ k. row_ok rows k (row_at rows k)) n
  unfolding stands
  each_cut =
      let many : length (enumerate_from 0 (take n rows)) ≡ n = length-enumerate_from 0 (take n rows) ∙ length-take-le n rows le in
      both_ways _ _
      (λ e. all_from (λ k. row_ok rows k (row_at rows k)) n
      (λ k h. sym (stands_at k h) ∙ and_at (list_all stands) stands refl (λ _ _. refl) (enumerate_from 0 (take n rows)) k (0, Input 0) (omega arith) e))
      (λ e. and_from_places (list_all stands) stands refl (λ _ _. refl) (enumerate_from 0 (take n rows)) (0, Input 0)
      (λ k h. let in_n : k < n = omega arith in stands_at k in_n ∙ all_at (λ k. row_ok rows k (row_at rows k)) n e k in_n))

  pub some_cut : list_any is_a_rule (take n rows) ≡ some_below (λ k. is_a_rule (row_at rows k)) n
  some_cut =
      sym (or_is (list_any is_a_rule) is_a_rule refl (λ _ _. refl) (take n rows) (Input 0) (some_below (λ k. is_a_rule (row_at rows k)) n)
      (λ e. let w = some_at (λ k. is_a_rule (row_at rows k)) n e in (w.0, rw (length-take-le n rows le) w.1, ap is_a_rule (get_or-take n rows w.0 (Input 0) w.1) ∙ w.2))
      (λ e k h. let in_n : k < n = omega (arith, length-take-le n rows le) in ap is_a_rule (get_or-take n rows k (Input 0) in_n) ∙ none_at (λ k. is_a_rule (row_at rows k)) n e k in_n))
