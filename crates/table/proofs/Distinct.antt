-- Distinct numbers below a bound are no more than the bound. Assumes nothing.
use Rattle.std.proofs.Common.{◌≡◌, ℕ, ◌<◌, ◌≤◌, true, eqb, map, length, sym, ◌∙◌, arith}
use Rattle.std.specs.List.{range_with_len, list_any, IsDistinct}
use Rattle.std.proofs.lemmas.Bool.{eqb-true, ne_eqb}
use Rattle.std.proofs.lemmas.List.Folds.{Any-from_list_any}
use Rattle.std.proofs.lemmas.List.FromFn.{length-map-range_with_len, get_or-map-range_with_len}
use Rattle.std.proofs.lemmas.Map.Keys.{IsDistinct-from_apart}
use Rattle.std.proofs.lemmas.Map.Steps.{length-le_from_distinct_below}

pub few_distinct : (f : ℕ → ℕ) (m n : ℕ) → ((k : ℕ) → k < n → f k < m) → ((j k : ℕ) → j < k → k < n → f j ≡ f k → ⊥) → n ≤ m
few_distinct f m n low apart =
    let xs = map f (range_with_len 0 n) in
    let long : length xs ≡ n = length-map-range_with_len f 0 n in
    let at = λ (k d : ℕ) (h : k < n). get_or-map-range_with_len f 0 n k k d h (omega arith) in
    let distinct : IsDistinct eqb xs =
    IsDistinct-from_apart eqb xs (λ i j d l h. ne_eqb _ _ (λ e. apart i j l (omega arith) (sym (at i d (omega arith)) ∙ e ∙ at j d (omega arith)))) in
    let below : (q : ℕ) → list_any (eqb q) xs ≡ true → q < m =
    λ q e. (let w = Any-from_list_any (eqb q) xs e in omega (arith, eqb-true q w.1 w.4, w.3, at w.0 w.1 (omega arith), low w.0 (omega arith))) in
    omega (arith, length-le_from_distinct_below xs m distinct below)
