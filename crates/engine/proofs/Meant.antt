-- What the memory at a place means, by any default. Assumes nothing.
use Rattle.std.proofs.Common.{◌≡◌, ℕ, ◌<◌, List, [], ◌∷◌, length, get_or, sym, subst, not-suc-le-zero}
use Rattle.std.proofs.lemmas.List.{get_or-map}
use Rattle.mitl.specs.Memory.{Meaning, new_memory}
use Rattle.engine.specs.Steps.{meant}

module _ {X : Type 0} (meaning : X → Meaning) where
  pub meant_is : (ms : List X) (i : ℕ) (z : X) → i < length ms → meant meaning ms i ≡ meaning (get_or ms i z)
  meant_is ms i z lt = get_or-map meaning ms i z new_memory lt

  -- where there is a place there is a memory
  pub some_memory : (ms : List X) (i : ℕ) → i < length ms → X
  some_memory [] i lt = absurd (not-suc-le-zero lt)
  some_memory (m ∷ ms) i lt = m

  pub meant_by : (P : Meaning → Type 0) (ms : List X) (i : ℕ) → i < length ms → ((z : X) → P (meaning (get_or ms i z))) → P (meant meaning ms i)
  meant_by P ms i lt each = let z = some_memory ms i lt in subst P (sym (meant_is ms i z lt)) (each z)
