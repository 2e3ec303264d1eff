-- What a memory means after ticks are taken. Assumes nothing.
use Rattle.std.proofs.Common.{◌≡◌, ℕ, ◌+◌, ◌-◌, ◌<◌, ◌≤◌, min, Bool, true, false, ◌&&◌, ◌||◌, ◌⊎◌, List, ◌∷◌, sym, refl, ap, ◌∙◌, inl, inr}
use Rattle.std.proofs.Math.Bool.{or-false}
use mathlib.Core.Path.{fun_ext}
use Rattle.mitl.specs.Memory.{Meaning, meets, taken, took}
use Rattle.clock_pairs.specs.declared.Episode.{Episode}
use Rattle.clock_pairs.specs.Episodes.{episode, reached, lasting}
use Rattle.clock_pairs.specs.Meanings.{told}
use Rattle.clock_pairs.specs.Reach.{reached_lasting, reached_new, reached_on}

abbrev with_marks : ℕ → ℕ → (ℕ → Bool) → Meaning
with_marks a b f = record { a = a; b = b; mark = f }

same_marks : (a b : ℕ) (f g : ℕ → Bool) → ((d : ℕ) → f d ≡ g d) → with_marks a b f ≡ with_marks a b g
same_marks a b f g each = ap (with_marks a b) (fun_ext each)

module _ (a b : ℕ) (upto : a ≤ b) (es : List Episode) (n : ℕ) where
  -- ticks at which the operand is no, or none
  pub takes_none : (v : Bool) → (v ≡ false) ⊎ (n ≡ 0) → told a b (lasting b n es) ≡ took v n (told a b es)
  takes_none v idle =
      same_marks a b (reached a b (lasting b n es)) (taken a b v n (reached a b es)) (λ d. reached_lasting a b upto n es d ∙ sym (quiet v idle d))
    where
      unmet : (v : Bool) (k d : ℕ) → (v ≡ false) ⊎ (k ≡ 0) → (v && meets a b k d) ≡ false
      unmet v k d (inl e) = ap (λ x. x && meets a b k d) e
      unmet true k d (inr e) = ap (λ x. meets a b x d) e
      unmet false k d (inr e) = refl

      quiet : (v : Bool) → (v ≡ false) ⊎ (n ≡ 0) → (d : ℕ) → taken a b v n (reached a b es) d ≡ reached a b es (d + n)
      quiet v idle d = ap (λ x. reached a b es (d + n) || x) (unmet v n d idle) ∙ or-false (reached a b es (d + n))

  -- yes ticks that begin an episode
  pub takes_new : 0 < n → told a b (episode (min b n) 0 ∷ lasting b n es) ≡ took true n (told a b es)
  takes_new pos = same_marks a b (reached a b (episode (min b n) 0 ∷ lasting b n es)) (taken a b true n (reached a b es)) (λ d. reached_new a b upto n es d pos)

  -- yes ticks that go on with the newest episode, e
  pub takes_on : (e : Episode) → 0 < n → e.fall ≤ b - a → 0 < e.rise → told a b (episode (min b (e.rise + n)) 0 ∷ lasting b n es) ≡ took true n (told a b (e ∷ es))
  takes_on e pos near rose =
      same_marks a b (reached a b (episode (min b (e.rise + n)) 0 ∷ lasting b n es)) (taken a b true n (reached a b (e ∷ es))) (λ d. reached_on a b upto n e es d pos near rose)
