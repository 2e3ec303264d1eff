-- Where a row stands on a chain. Assumes nothing.
use Rattle.std.specs.Prelude.{◌≡◌, ℕ, ◌<◌, List, length, Some, None, Option, ◌==◌, ◌≢◌, slice_index}
use Rattle.std.specs.List.{position_from}

-- the first place of n among the numbers, counted from i
abbrev pub place_from : ℕ → List ℕ → ℕ → Option ℕ
place_from i ms n = position_from (λ m. m == n) i ms

-- the place on the chain of the row with number n, by the numbers along the chain
abbrev pub place_among_lem : List ℕ → ℕ → Option ℕ
place_among_lem ms n = place_from 0 ms n

-- the same by quantifiers: n stands there and nowhere before, or stands nowhere
abbrev pub FirstPlace : List ℕ → ℕ → Option ℕ → Type 0
FirstPlace ms n None = (k : ℕ) → k < length ms → slice_index ms k ≢ n
FirstPlace ms n (Some i) = (i < length ms) × (slice_index ms i ≡ n) × ((k : ℕ) → k < i → slice_index ms k ≢ n)
