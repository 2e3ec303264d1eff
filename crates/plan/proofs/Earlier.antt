-- What is known of a row that may stand at a place: its operands are earlier rows, and its window does not end before it
-- starts. Assumes nothing.
use Rattle.std.proofs.Common.{◌≡◌, ℕ, ◌<◌, ◌≤◌, true, List, arith}
use Rattle.std.proofs.lemmas.Bool.{and_parts, ltb-true}
use Rattle.mitl.specs.declared.Row.{Row}
use Rattle.mitl.specs.declared.Row.TheVariants.{Input, Not, And, Or, Once, Always, Since, Rule}
use Rattle.mitl.specs.Blocks.{Proper}
use Rattle.mitl.specs.Rows.{Earlier}
use Rattle.mitl.specs.Windows.{sound_window}
use Rattle.plan.specs.Sound.{operand_ok, row_ok}

module _ (rows : List Row) (k m : ℕ) (le : k ≤ m) where
  earlier : (l : ℕ) → operand_ok rows k l ≡ true → l < m
  earlier l e = omega (arith, ltb-true l k (and_parts _ _ e).0)

  pub row_earlier : (r : Row) → row_ok rows k r ≡ true → Earlier m r
  row_earlier (Input i) e = tt
  row_earlier (Not l) e = earlier l e
  row_earlier (And l r) e = let p = and_parts _ _ e in (earlier l p.0, earlier r p.1)
  row_earlier (Or l r) e = let p = and_parts _ _ e in (earlier l p.0, earlier r p.1)
  row_earlier (Once l a b) e = earlier l (and_parts _ _ e).0
  row_earlier (Always l a b) e = earlier l (and_parts _ _ e).0
  row_earlier (Since l r a b) e = let p = and_parts _ _ (and_parts _ _ e).0 in (earlier l p.0, earlier r p.1)
  row_earlier (Rule i l) e = earlier l (and_parts _ _ e).1

window_order : (a b : ℕ) → sound_window a b ≡ true → a ≤ b
window_order a b ok = omega (arith, ltb-true a b (and_parts _ _ ok).0)

pub row_proper : (rows : List Row) (k : ℕ) (r : Row) → row_ok rows k r ≡ true → Proper r
row_proper rows k (Input i) e = tt
row_proper rows k (Not l) e = tt
row_proper rows k (And l r) e = tt
row_proper rows k (Or l r) e = tt
row_proper rows k (Once l a b) e = window_order a b (and_parts _ _ e).1
row_proper rows k (Always l a b) e = window_order a b (and_parts _ _ e).1
row_proper rows k (Since l r a b) e = window_order a b (and_parts _ _ e).1
row_proper rows k (Rule i l) e = tt
