-- What a formula says at a tick does not depend on later ticks. Assumes nothing.
use Rattle.std.proofs.Common.{◌≡◌, ℕ, ◌<◌, ◌&&◌, ◌↔◌, List, ◌++◌, length, sym, ap, ◌∙◌, inl, inr, arith}
use mathlib.Core.Logic.Iff
use mathlib.Core.Path.{fun_ext}
use Rattle.std.proofs.lemmas.List.{get_or_append_left}
use Rattle.std.proofs.lemmas.Bool.Decides.{same_from_decides, Decides-like}
use Rattle.mitl.specs.Formulas.{Formula, input, neg, both, either, once, always, since, Sat, sat, bit}
use Rattle.mitl.proofs.Tests.{decides_sat}
use Rattle.mitl.specs.Windows.{some_below}
use Rattle.mitl.specs.declared.Row.{Row}
use Rattle.mitl.specs.Rows.{row_at, formula_at, formulas, read, word, is_rule, verdict}

module _ (h x : List ℕ) where
  pub Sat-append : (f : Formula) (t : ℕ) → t < length h → Sat f (h ++ x) t ↔ Sat f h t
  Sat-append (input i) t lt =
      let same = ap (bit i) (get_or_append_left h x 0 t lt) in
      (λ e. sym same ∙ e, λ e. same ∙ e)
  Sat-append (neg f) t lt = Iff.not (Sat-append f t lt)
  Sat-append (both f g) t lt = Iff.and (Sat-append f t lt) (Sat-append g t lt)
  Sat-append (either f g) t lt =
      let e = Sat-append f t lt in
      let d = Sat-append g t lt in
      (elim [ inl s ↦ inl (e.0 s) | inr s ↦ inr (d.0 s) ], elim [ inl s ↦ inl (e.1 s) | inr s ↦ inr (d.1 s) ])
  Sat-append (once f a b) t lt =
      (λ r. (r.0, r.1, (Sat-append f r.0 (omega (arith, r.1))).0 r.2), λ r. (r.0, r.1, (Sat-append f r.0 (omega (arith, r.1))).1 r.2))
  Sat-append (always f a b) t lt =
      (λ r u w. (Sat-append f u (omega arith)).0 (r u w), λ r u w. (Sat-append f u (omega arith)).1 (r u w))
  Sat-append (since f g a b) t lt = (
    λ r.
        (r.0, r.1, (Sat-append g r.0 (omega (arith, r.1))).0 r.2, λ s low high. (Sat-append f s (omega arith)).0 (r.3 s low high)),
    λ r.
        (r.0, r.1, (Sat-append g r.0 (omega (arith, r.1))).1 r.2, λ s low high. (Sat-append f s (omega arith)).1 (r.3 s low high)),
  )

  pub sat_append : (f : Formula) (t : ℕ) → t < length h → sat f (h ++ x) t ≡ sat f h t
  sat_append f t lt =
      same_from_decides _ _ (Decides-like _ (Sat-append f t lt).0 (Sat-append f t lt).1 (decides_sat f (h ++ x) t)) (decides_sat f h t)

pub read_append : (rows : List Row) (h x : List ℕ) (k t : ℕ) → t < length h → read rows (h ++ x) k t ≡ read rows h k t
read_append rows h x k t lt = sat_append h x (formula_at (formulas rows) k) t lt

pub verdict_append : (rows : List Row) (h x : List ℕ) (t : ℕ) → t < length h → verdict rows (h ++ x) t ≡ verdict rows h t
unfolding verdict
verdict_append rows h x t lt =
    ap (λ f. word f 16)
    (fun_ext (λ i. ap (λ p. some_below p (length rows)) (fun_ext (λ k. ap (λ b. is_rule i (row_at rows k) && b) (read_append rows h x k t lt)))))
