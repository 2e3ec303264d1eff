-- Cleared memories mean the empty history. Assumes nothing.
use Rattle.std.proofs.Common.{◌≡◌, ℕ, min, List, [], length, ap, ◌∙◌, arith}
use Rattle.mitl.specs.declared.Row.{Row}
use Rattle.mitl.specs.Memory.{Meaning, cleared}
use Rattle.mitl.specs.Rows.{timed_rows, timed_before}
use Rattle.engine.specs.Means.{Means, Changed}
use Rattle.engine.proofs.Plans.{timed_past}

module _ {X : Type 0} (meaning : X → Meaning) (rows : List Row) (end : ℕ) (xs ys : List X) where
  pub cleared_means : end ≡ min (timed_rows rows) (length xs) → length ys ≡ length xs → Changed meaning cleared end xs ys → (h : List ℕ) → Means meaning rows xs h → Means meaning rows ys []
  cleared_means most long a h means = record {
    enough = omega (arith, means.enough);
    outlooks = λ p m lt timed.
        let place = timed_past rows p (length rows) lt timed in
        a.there (timed_before rows p) m (omega (arith, place, means.enough)) (omega (arith, place, means.enough)) ∙ ap cleared (means.outlooks p m lt timed);
  }
