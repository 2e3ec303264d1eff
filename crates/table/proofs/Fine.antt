-- What is known of a row without a fault. Assumes nothing.
use Rattle.std.proofs.Common.{◌≡◌, ℕ, ◌<◌, ◌≤◌, Bool, true, false, cond, not, ◌&&◌, List, length, is_some, Some, None, Option, sym, refl, subst, arith}
use Rattle.std.proofs.lemmas.Bool.{and_parts, and_from, not-false}
use Rattle.std.proofs.lemmas.Bool.Decides.{nat_tests}
use Rattle.std.proofs.lemmas.Option.{none-some}
use Rattle.refusal.specs.Faults.{refusal}
use Rattle.mitl.specs.declared.Row.{Row}
use Rattle.mitl.specs.Rows.{row_at}
use Rattle.mitl.specs.Windows.{sound_window}
use Rattle.plan.specs.Places.{place_among_lem}
use Rattle.plan.specs.Sound.{is_a_rule, operand_ok, row_ok}
use Rattle.plan.proofs.Found.{found_place}
use Rattle.table.specs.Faults.{operand_place, unless_rule, operands_right, faults_as, faults_of, place_in, row_as, rule_used}
use Rattle.table.specs.Letters.{well_filled_lem, window_used}
use Rattle.refusal.specs.Faults.{first_fault}
use Rattle.table.specs.declared.row.Fields.{Fields}
use Rattle.table.specs.declared.row.Letter.{Letter}
use Rattle.table.specs.declared.row.Letter.TheVariants.{P, N, A, O, D, B, S, R}
use Rattle.refusal.proofs.Firsts.{none_held}

pub record Fine (told : ℕ) (ns : List ℕ) (rs : List Row) (r : ℕ) (c : Letter) (f : Fields) : Type 0 where
  pub filled : well_filled_lem c f ≡ true
  pub operands : operands_right ns rs c f ≡ true
  pub window : (window_used c && not (sound_window f.a f.b)) ≡ false
  pub within : f.next ≤ told
  pub on : f.next ≡ r → ⊥
  pub fresh : place_among_lem ns f.next ≡ None

not_some : (o : Option ℕ) → is_some o ≡ false → o ≡ None
not_some None e = refl
not_some (Some k) e = grind arith

module _ (admits : ℕ → ℕ → Bool) (told : ℕ) (ns : List ℕ) (rs : List Row) (r : ℕ) where
  fine_as : (c : Letter) (f : Fields) → first_fault (faults_as admits told ns rs r c f) ≡ None → Fine told ns rs r c f
  fine_as c f e =
      let all = none_held (faults_as admits told ns rs r c f) e in
      let last = all.1.1.1.1.1.0 in
      record {
        filled = not-false (well_filled_lem c f) all.0;
        operands = not-false (operands_right ns rs c f) all.1.0;
        window = all.1.1.0;
        within = grind (arith, nat_tests);
        on = λ e. grind (arith, nat_tests);
        fresh = not_some (place_among_lem ns f.next) (grind (arith, nat_tests));
      }

  pub fine_of : (o : Option Letter) (f : Fields) → first_fault (faults_of admits told ns rs r o f) ≡ None → (c : Letter) × (o ≡ Some c) × Fine told ns rs r c f
  fine_of None f e = absurd (none-some (refusal 4 r) (sym e))
  fine_of (Some c) f e = (c, refl, fine_as c f e)

  -- the number of an R row without a fault was not used before
  pub unused_of : (o : Option Letter) (f : Fields) → o ≡ Some R → first_fault (faults_of admits told ns rs r o f) ≡ None → rule_used rs f.number ≡ false
  unused_of o f is e =
      (none_held (faults_as admits told ns rs r R f) (subst (λ x. first_fault (faults_of admits told ns rs r x f) ≡ None) is e)).1.1.1.0

-- a row without a fault may stand at its place of a plan
module _ (ns : List ℕ) (rs rows : List Row) (k : ℕ) (long : length ns ≡ k) (same : (j : ℕ) → j < k → row_at rows j ≡ row_at rs j) where
  no_rule : (j : ℕ) → is_some (cond (is_a_rule (row_at rs j)) None (Some j)) ≡ true → is_a_rule (row_at rs j) ≡ false
  no_rule j e = grind (arith, nat_tests)

  operand_at : (n : ℕ) (o : Option ℕ) → place_among_lem ns n ≡ o → is_some (unless_rule rs o) ≡ true → operand_ok rows k (place_in ns n) ≡ true
  operand_at n None e some = grind arith
  operand_at n (Some j) e some =
      let w = found_place ns n j e in
      grind (arith, nat_tests, same j, no_rule j some)

  operand_fine : (n : ℕ) → is_some (operand_place ns rs n) ≡ true → operand_ok rows k (place_in ns n) ≡ true
  operand_fine n some = operand_at n (place_among_lem ns n) refl some

  sound_fine : (a b : ℕ) → (true && not (sound_window a b)) ≡ false → sound_window a b ≡ true
  sound_fine a b e = not-false (sound_window a b) e

  pub row_fine : (told r : ℕ) (c : Letter) (f : Fields) → Fine told ns rs r c f → row_ok rows k (row_as ns c f) ≡ true
  row_fine told r P f fine = (and_parts _ _ fine.filled).0
  row_fine told r N f fine = operand_fine f.left (and_parts _ _ fine.operands).0
  row_fine told r A f fine = let both = and_parts _ _ fine.operands in and_from _ _ (operand_fine f.left both.0) (operand_fine f.right both.1)
  row_fine told r O f fine = let both = and_parts _ _ fine.operands in and_from _ _ (operand_fine f.left both.0) (operand_fine f.right both.1)
  row_fine told r D f fine = and_from _ _ (operand_fine f.left (and_parts _ _ fine.operands).0) (sound_fine f.a f.b fine.window)
  row_fine told r B f fine = and_from _ _ (operand_fine f.left (and_parts _ _ fine.operands).0) (sound_fine f.a f.b fine.window)
  row_fine told r S f fine =
      let both = and_parts _ _ fine.operands in
      and_from _ _ (and_from _ _ (operand_fine f.left both.0) (operand_fine f.right both.1)) (sound_fine f.a f.b fine.window)
  row_fine told r R f fine = and_from _ _ (and_parts _ _ fine.filled).0 (operand_fine f.left (and_parts _ _ fine.operands).0)
