-- What the marks of aged, of new and of grown episodes are. Assumes nothing.
use Rattle.std.specs.Prelude.{◌≡◌, ℕ, zero, suc, ◌+◌, ◌-◌, ◌<◌, ◌≤◌, min, Bool, true, false, cond, ◌||◌, List, [], ◌∷◌, nat_lt, refl}
use Rattle.std.proofs.Common.{sym, ap, ap₂, ◌∙◌, arith}
use Rattle.std.proofs.lemmas.Bool.{ltb-true, ltb-false}
use Rattle.std.proofs.lemmas.Bool.Decides.{nat_tests}
use Rattle.mitl.specs.Memory.{meets}
use Rattle.clock_pairs.specs.declared.Episode.{Episode}
use Rattle.clock_pairs.specs.Episodes.{episode, covers, reached, older, lasting}

or_turned : (x y : Bool) → (x || y) ≡ (y || x)
or_turned true true = refl
or_turned true false = refl
or_turned false true = refl
or_turned false false = refl

or_moved : (x y z : Bool) → ((x || y) || z) ≡ ((x || z) || y)
or_moved true y z = refl
or_moved false y z = or_turned y z

module _ (a b : ℕ) (upto : a ≤ b) where
  -- the yes ticks just taken reach what an episode of that age reaches
  pub meets_covers : (n d : ℕ) → 0 < n → meets a b n d ≡ covers a b (episode n 0) d
  meets_covers zero d pos = absurd (omega arith)
  meets_covers (suc zero) d pos = grind (arith, nat_tests)
  meets_covers (suc (suc n)) d pos = rw (meets_covers (suc n) d (omega arith)) (grind (arith, nat_tests))

  young : (n d : ℕ) (e : Episode) → e.fall + n < b → covers a b (older b n e) d ≡ covers a b e (d + n)
  young n d e lt = grind (arith, nat_tests)

  old : (n d : ℕ) (e : Episode) → b ≤ e.fall + n → covers a b e (d + n) ≡ false
  old n d e le = grind (arith, nat_tests)

  -- no tick's mark is lost or won by ageing
  pub reached_lasting : (n : ℕ) (es : List Episode) (d : ℕ) → reached a b (lasting b n es) d ≡ reached a b es (d + n)
  reached_lasting n [] d = refl
  reached_lasting n (e ∷ es) d = step (nat_lt (e.fall + n) b) refl (reached_lasting n es d)
    where
      step : (t : Bool) → nat_lt (e.fall + n) b ≡ t → reached a b (lasting b n es) d ≡ reached a b es (d + n)
          → reached a b (cond t (older b n e ∷ lasting b n es) (lasting b n es)) d ≡ (covers a b e (d + n) || reached a b es (d + n))
      step true h rest = ap₂ ◌||◌ (young n d e (ltb-true _ _ h)) rest
      step false h rest = rest ∙ sym (ap (λ t. t || reached a b es (d + n)) (old n d e (ltb-false _ _ h)))

  capped : (n d : ℕ) → covers a b (episode (min b n) 0) d ≡ covers a b (episode n 0) d
  capped n d = grind (arith, nat_tests)

  -- filling a gap of at most b - a ticks adds no mark of its own
  filled : (n d : ℕ) (e : Episode) → e.fall ≤ b - a → 0 < e.rise → covers a b (episode (min b (e.rise + n)) 0) d ≡ (covers a b e (d + n) || covers a b (episode n 0) d)
  filled n d e near rose = grind (arith, nat_tests)

  -- a first yes
  pub reached_new : (n : ℕ) (es : List Episode) (d : ℕ) → 0 < n → reached a b (episode (min b n) 0 ∷ lasting b n es) d ≡ (reached a b es (d + n) || meets a b n d)
  reached_new n es d pos = ap₂ ◌||◌ (capped n d ∙ sym (meets_covers n d pos)) (reached_lasting n es d) ∙ or_turned (meets a b n d) (reached a b es (d + n))

  -- a yes that goes on with the newest episode
  pub reached_on : (n : ℕ) (e : Episode) (es : List Episode) (d : ℕ) → 0 < n → e.fall ≤ b - a → 0 < e.rise
      → reached a b (episode (min b (e.rise + n)) 0 ∷ lasting b n es) d ≡ (reached a b (e ∷ es) (d + n) || meets a b n d)
  reached_on n e es d pos near rose =
      ap₂ ◌||◌ (filled n d e near rose ∙ ap (λ t. covers a b e (d + n) || t) (sym (meets_covers n d pos))) (reached_lasting n es d)
      ∙ or_moved (covers a b e (d + n)) (meets a b n d) (reached a b es (d + n))

-- no episode reaches the tick b ahead
pub reached_past : (a b d : ℕ) → b ≤ d → (es : List Episode) → reached a b es d ≡ false
reached_past a b d le [] = refl
reached_past a b d le (e ∷ es) = rw (reached_past a b d le es) (grind (arith, nat_tests))
