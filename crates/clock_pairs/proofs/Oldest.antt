-- The verdict ahead by the oldest of some episodes. Assumes nothing.
use Rattle.std.proofs.Common.{◌≡◌, ℕ, ◌-◌, ◌<◌, ◌≤◌, Bool, true, false, List, [], ◌∷◌, length, Some, None, Option, slice_get, refl, ap, ◌∙◌, subst, sym, arith}
use Rattle.mitl.specs.Memory.{ahead, Lasts}
use Rattle.clock_pairs.specs.declared.Episode.{Episode}
use Rattle.clock_pairs.specs.Episodes.{reached}
use Rattle.clock_pairs.proofs.Order.{Apart}
use Rattle.clock_pairs.proofs.Ahead.{oldest, not_yet, until, for_ever}

-- the reply on the verdicts ahead with these episodes
abbrev pub Reply : ℕ → ℕ → Bool → List Episode → Bool → Option ℕ → Type 0
Reply a b v es r n = Lasts (ahead a v (reached a b es)) r n

-- what lasts holds of the next tick
pub next : (f : ℕ → Bool) (r : Bool) (n : Option ℕ) → Lasts f r n → r ≡ f 0
next f r None lasts = sym (lasts 0)
next f r (Some n) lasts = sym (lasts.1 0 lasts.0)

oldest_at : (e : Episode) (es : List Episode) → slice_get (e ∷ es) (length es) ≡ Some (oldest e es)
oldest_at e [] = refl
oldest_at e (f ∷ es) = oldest_at f es

-- what holds of each list and its oldest episode, holds of a list and the last place's
by_oldest : (P : List Episode → Episode → Type 0) → ((e : Episode) (es : List Episode) → P (e ∷ es) (oldest e es))
    → (es : List Episode) (o : Episode) → Some o ≡ slice_get es (length es - 1) → P es o
by_oldest P p [] o last = absurd (cc)
by_oldest P p (e ∷ es) o last =
    let less : length (e ∷ es) - 1 ≡ length es = omega arith in
    let same : Some o ≡ Some (oldest e es) = last ∙ ap (slice_get (e ∷ es)) less ∙ oldest_at e es in
    let is : oldest e es ≡ o = cc in
    subst (P (e ∷ es)) is (p e es)

module _ (a b : ℕ) (upto : a ≤ b) (v : Bool) where
  pub replies_not_yet : (es : List Episode) (o : Episode) → Some o ≡ slice_get es (length es - 1) → Apart a b 0 es → 0 < a - o.rise → Reply a b v es false (Some (a - o.rise))
  replies_not_yet = by_oldest (λ es o. Apart a b 0 es → 0 < a - o.rise → Reply a b v es false (Some (a - o.rise))) (λ e es g. not_yet a b upto e es g v)

  pub replies_until : (es : List Episode) (o : Episode) → Some o ≡ slice_get es (length es - 1) → Apart a b 0 es → a ≤ o.rise → (v ≡ true → b - o.fall < a) → Reply a b v es true (Some (b - o.fall))
  replies_until =
      by_oldest (λ es o. Apart a b 0 es → a ≤ o.rise → (v ≡ true → b - o.fall < a) → Reply a b v es true (Some (b - o.fall))) (λ e es g. until a b upto e es g v)

  pub replies_for_ever : (es : List Episode) (o : Episode) → Some o ≡ slice_get es (length es - 1) → Apart a b 0 es → a ≤ o.rise → v ≡ true → a ≤ b - o.fall → Reply a b v es true None
  replies_for_ever =
      by_oldest (λ es o. Apart a b 0 es → a ≤ o.rise → v ≡ true → a ≤ b - o.fall → Reply a b v es true None) (λ e es g. for_ever a b upto e es g v)
