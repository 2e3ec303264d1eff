-- For how long readings last. Assumes nothing.
use Rattle.std.proofs.Common.{◌≡◌, ℕ, ◌<◌, ◌≤◌, Bool, not, Some, None, Option, sym, ap, ◌∙◌, subst, inl, inr, arith}
use native.Mathlib.Nat.{min-eq_left, min-eq_right}
use Rattle.std.proofs.lemmas.Bool.{cases_lt}
use Rattle.mitl.specs.Memory.{Lasts}
use Rattle.engine.specs.Steps.{Before, AtEnd, shorter, capped}

-- a verdict turned round lasts as long
pub lasts_turned : (f : ℕ → Bool) (r s : Bool) (o p : Option ℕ) → s ≡ not r → p ≡ o → Lasts f r o → Lasts (λ d. not (f d)) s p
lasts_turned f r s None p e e' l = subst (λ q. Lasts (λ d. not (f d)) s q) (sym e') (λ d. ap not (l d) ∙ sym e)
lasts_turned f r s (Some n) p e e' l = subst (λ q. Lasts (λ d. not (f d)) s q) (sym e') (l.0, λ d lt. ap not (l.1 d lt) ∙ sym e, ap not (l.2 ∙ sym e))

pub lasts_before : (f : ℕ → Bool) (r : Bool) (o : Option ℕ) → Lasts f r o → (d : ℕ) → Before d o → f d ≡ r
lasts_before f r None l d b = l d
lasts_before f r (Some n) l d b = l.1 d b

pub lasts_some : (f : ℕ → Bool) (r : Bool) (o : Option ℕ) → Lasts f r o → Before 0 o
lasts_some f r None l = tt
lasts_some f r (Some n) l = l.0

pub before_shorter : (d : ℕ) (x y : Option ℕ) → Before d (shorter x y) → Before d x × Before d y
before_shorter d None y b = (tt, b)
before_shorter d (Some x) None b = (b, tt)
before_shorter d (Some x) (Some y) b = (omega (arith, b), omega (arith, b))

pub shorter_before : (d : ℕ) (x y : Option ℕ) → Before d x → Before d y → Before d (shorter x y)
shorter_before d None y b b' = b'
shorter_before d (Some x) None b b' = b
shorter_before d (Some x) (Some y) b b' = omega (arith, b, b')

pub capped_positive : (o : Option ℕ) (n : ℕ) → Before 0 o → 0 < n → 0 < capped o n
capped_positive None n b pos = pos
capped_positive (Some x) n b pos = omega (arith, b)

pub capped_most : (o : Option ℕ) (n : ℕ) → capped o n ≤ n
capped_most None n = omega arith
capped_most (Some x) n = omega arith

pub capped_before : (o : Option ℕ) (n d : ℕ) → d < capped o n → Before d o
capped_before None n d lt = tt
capped_before (Some x) n d lt = omega (arith, lt)

pub end_lasts : (f : ℕ → Bool) (r : Bool) (o : Option ℕ) → Lasts f r o → {P : ℕ → Type 0} → ((d : ℕ) → f d ≡ not r → P d) → AtEnd P o
end_lasts f r None l p = tt
end_lasts f r (Some n) l p = p n l.2

pub end_shorter : (P : ℕ → Type 0) (x y : Option ℕ) → AtEnd P x → AtEnd P y → AtEnd P (shorter x y)
end_shorter P None y e e' = e'
end_shorter P (Some x) None e e' = e
end_shorter P (Some x) (Some y) e e' =
    elim (cases_lt x y) [ inl less ↦ subst P (sym (min-eq_left (omega arith))) e | inr more ↦ subst P (sym (min-eq_right more)) e' ]

pub end_map : (P Q : ℕ → Type 0) (o : Option ℕ) → ((d : ℕ) → P d → Q d) → AtEnd P o → AtEnd Q o
end_map P Q None f e = tt
end_map P Q (Some n) f e = f n e
