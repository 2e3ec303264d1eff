-- `sat` decides `Sat`. Assumes nothing.
use Rattle.std.proofs.Common.{◌≡◌, ℕ, suc, ◌+◌, ◌<◌, ◌≤◌, Bool, true, false, not, ◌&&◌, ◌||◌, leb, List, Decides, refl, arith}
use mathlib.Core.Bool.{false≢true}
use Rattle.std.proofs.lemmas.Bool.Decides.{Decides-not, Decides-and, Decides-or, Decides-like, Decides-below_and, Decides-below_or}
use Rattle.std.proofs.lemmas.Bool.{leb-true, le-leb, false_from_ne_true}
use Rattle.mitl.specs.Formulas.{Formula, input, neg, both, either, once, always, since, Sat, sat}
use Rattle.mitl.specs.Windows.{Window, window, some_below, all_below}

pub itself : (v : Bool) → Decides v (v ≡ true)
itself v = (λ e. e, λ e. e)

-- a test says no where what it decides does not hold
pub no_from_none : {P : Type 0} (v : Bool) → Decides v P → (P → ⊥) → v ≡ false
no_from_none v d none = false_from_ne_true v (λ e. none (d.0 e))

pub decides_leb : (a b : ℕ) → Decides (leb a b) (a ≤ b)
decides_leb a b = (leb-true a b, le-leb a b)

pub decides_window : (a b t u : ℕ) → Decides (window a b t u) (Window a b t u)
decides_window a b t u = Decides-and _ _ (decides_leb t (u + b)) (decides_leb (u + a) t)

pub decides_implies : {P Q : Type 0} (x y : Bool) → Decides x P → Decides y Q → Decides (not x || y) (P → Q)
decides_implies true y p q = (λ e _. q.0 e, λ f. q.1 (f (p.0 refl)))
decides_implies false y p q = (λ _ x. absurd (false≢true (p.1 x)), λ _. refl)

module _ (p : ℕ → Bool) (P : ℕ → Type 0) (each : (u : ℕ) → Decides (p u) (P u)) where
  pub decides_some : (n : ℕ) → Decides (some_below p n) ((u : ℕ) × (u < n) × P u)
  decides_some = Decides-below_or p P (some_below p) each refl (λ _. refl)

  pub decides_all : (n : ℕ) → Decides (all_below p n) ((u : ℕ) → u < n → P u)
  decides_all = Decides-below_and p P (all_below p) each refl (λ _. refl)

-- somewhere below n, within the window from a to b behind t
pub decides_within : (p : ℕ → Bool) (P : ℕ → Type 0) → ((u : ℕ) → Decides (p u) (P u)) → (a b t n : ℕ)
    → Decides (some_below (λ u. window a b t u && p u) n) ((u : ℕ) × (u < n) × Window a b t u × P u)
decides_within p P each a b t n =
    Decides-like _ (λ r. (r.0, r.1, r.2.0, r.2.1)) (λ r. (r.0, r.1, (r.2, r.3)))
    (decides_some _ _ (λ u. Decides-and _ _ (decides_window a b t u) (each u)) n)

-- everywhere from u on, below n
pub decides_from : (p : ℕ → Bool) (P : ℕ → Type 0) → ((s : ℕ) → Decides (p s) (P s)) → (u n : ℕ)
    → Decides (all_below (λ s. not (leb u s) || p s) n) ((s : ℕ) → u ≤ s → s < n → P s)
decides_from p P each u n =
    Decides-like _ (λ r s low high. r s high low) (λ r s high low. r s low high)
    (decides_all _ _ (λ s. decides_implies _ _ (decides_leb u s) (each s)) n)

pub decides_sat : (f : Formula) (h : List ℕ) (t : ℕ) → Decides (sat f h t) (Sat f h t)
decides_sat (input i) h t = itself _
decides_sat (neg f) h t = Decides-not _ (decides_sat f h t)
decides_sat (both f g) h t = Decides-and _ _ (decides_sat f h t) (decides_sat g h t)
decides_sat (either f g) h t = Decides-or _ _ (decides_sat f h t) (decides_sat g h t)
decides_sat (once f a b) h t =
    Decides-like _
    (λ r. (r.0, r.2, r.3)) (λ r. (r.0, omega (arith, r.1), r.1, r.2))
    (decides_within _ _ (decides_sat f h) a b t (suc t))
decides_sat (always f a b) h t =
    Decides-like _
    (λ r u w. r u (omega arith) w) (λ r u _ w. r u w)
    (decides_all _ _ (λ u. decides_implies _ _ (decides_window a b t u) (decides_sat f h u)) (suc t))
decides_sat (since f g a b) h t =
    Decides-like _
    (λ r. (r.0, r.2, r.3.0, λ s low high. r.3.1 s low (omega arith)))
    (λ r. (r.0, omega (arith, r.1), r.1, (r.2, λ s low high. r.3 s low (omega arith))))
    (decides_within _ _ (λ u. Decides-and _ _ (decides_sat g h u) (decides_from _ _ (decides_sat f h) u (suc t))) a b t (suc t))
