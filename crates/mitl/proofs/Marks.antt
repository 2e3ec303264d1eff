-- The outlook of a timed row, through the readings of its operand rows. Assumes nothing.
use Rattle.std.proofs.Common.{◌≡◌, ℕ, ◌<◌, ◌≤◌, Bool, true, false, List, [], length, Decides, sym, refl, ap, subst, arith}
use mathlib.Core.Bool.{false≢true}
use Rattle.std.proofs.lemmas.Bool.{not-true}
use Rattle.std.proofs.lemmas.Bool.Decides.{Decides-at, Decides-like, Decides-not, not_from_Decides}
use Rattle.mitl.specs.declared.Row.{Row}
use Rattle.mitl.specs.declared.Row.TheVariants.{Once, Always, Since}
use Rattle.mitl.specs.Formulas.{Formula, once, always, since, Sat, sat}
use Rattle.mitl.specs.Rows.{Earlier, is_timed, row_at, Chained, Reads, formula_at, formula_of, formulas, read}
use Rattle.mitl.specs.Outlook.{from, to, outlook, looked, row_from, row_to, RowMarked}
use Rattle.mitl.specs.Memory.{clean}
use Rattle.mitl.proofs.Tests.{no_from_none, decides_sat}
use Rattle.mitl.proofs.Rows.{formulas_at, read_reads, one_reading}
use Rattle.mitl.proofs.Outlook.{decides_outlook}

-- the window of a timed row is that of its formula
abbrev Windowed : Formula → Row → Type 0
Windowed f r = (from f ≡ row_from r) × (to f ≡ row_to r)

window_of : (fs : List Formula) (r : Row) → is_timed r ≡ true → Windowed (formula_of fs r) r
window_of fs (Once l a b) timed = (refl, refl)
window_of fs (Always l a b) timed = (refl, refl)
window_of fs (Since l r a b) timed = (refl, refl)
window_of fs r timed = absurd (false≢true timed)

pub row_window : (rows : List Row) → Chained rows → (k : ℕ) → k < length rows → is_timed (row_at rows k) ≡ true
    → (from (formula_at (formulas rows) k) ≡ row_from (row_at rows k)) × (to (formula_at (formulas rows) k) ≡ row_to (row_at rows k))
row_window rows chained k lt timed =
    subst (λ f. Windowed f (row_at rows k)) (sym (formulas_at rows chained k lt)) (window_of (formulas rows) (row_at rows k) timed)

module _ (fs : List Formula) (h : List ℕ) (reading : ℕ → ℕ → Bool) (k : ℕ) (same : (l : ℕ) → l < k → (u : ℕ) → reading l u ≡ sat (formula_at fs l) h u) where
  -- the formula of an operand holds where its row is read as yes
  yes : (l : ℕ) → l < k → (u : ℕ) → Decides (reading l u) (Sat (formula_at fs l) h u)
  yes l lt u = Decides-at _ _ (same l lt u) (decides_sat (formula_at fs l) h u)

  marked_of : (r : Row) → is_timed r ≡ true → Earlier k r → (d : ℕ) → Decides (outlook (formula_of fs r) h d) (RowMarked r reading (length h) d)
  marked_of (Once l a b) timed e d =
      Decides-like _
      (λ m. (m.0, m.1, m.2, (yes l e m.0).1 m.3))
      (λ m. (m.0, m.1, m.2, (yes l e m.0).0 m.3))
      (decides_outlook (once (formula_at fs l) a b) h d)
  marked_of (Always l a b) timed e d =
      Decides-like _
      (λ m. (m.0, m.1, m.2, not-true _ ((Decides-not _ (yes l e m.0)).1 m.3)))
      (λ m. (m.0, m.1, m.2, not_from_Decides _ (yes l e m.0) m.3))
      (decides_outlook (always (formula_at fs l) a b) h d)
  marked_of (Since l r a b) timed e d =
      Decides-like _
      (λ m. (m.0, m.1, m.2, ((yes r e.1 m.0).1 m.3.0, λ s low high. (yes l e.0 s).1 (m.3.1 s low high))))
      (λ m. (m.0, m.1, m.2, ((yes r e.1 m.0).0 m.3.0, λ s low high. (yes l e.0 s).0 (m.3.1 s low high))))
      (decides_outlook (since (formula_at fs l) (formula_at fs r) a b) h d)
  marked_of r timed e d = absurd (false≢true timed)

pub row_marked : (rows : List Row) → Chained rows → (h : List ℕ) (reading : ℕ → ℕ → Bool) → Reads rows h reading
    → (k : ℕ) → k < length rows → is_timed (row_at rows k) ≡ true → (d : ℕ) → Decides (outlook (formula_at (formulas rows) k) h d) (RowMarked (row_at rows k) reading (length h) d)
row_marked rows chained h reading reads k lt timed d =
    Decides-at _ _ (ap (λ f. outlook f h d) (formulas_at rows chained k lt))
    (marked_of (formulas rows) h reading k (λ l less u. one_reading rows h chained reading (read rows h) reads (read_reads rows h chained) l (omega arith) u)
    (row_at rows k) timed (chained k lt) d)

pub outlook_fresh : (f : Formula) → looked f [] ≡ clean (from f) (to f)
outlook_fresh f = refl

pub outlook_past : (f : Formula) (h : List ℕ) (d : ℕ) → to f ≤ d → outlook f h d ≡ false
outlook_past f h d past = no_from_none _ (decides_outlook f h d) (λ m. omega (arith, m.1, m.2))
