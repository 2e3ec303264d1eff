-- A decimal number by its last digit. Assumes nothing.
use Rattle.std.proofs.Common.{◌≡◌, ℕ, ◌+◌, ◌-◌, ◌/◌, ◌%◌, ◌^◌, ◌<◌, ◌≤◌, List, [], ◌∷◌, ◌++◌, length, drop, set, decimal, ap, ◌∙◌, append_assoc, arith}
use Rattle.std.proofs.lemmas.List.{length_push, drop-set}
use Rattle.std.proofs.lemmas.Fmt.{decimal_digit, decimal_step, length-decimal-le}

-- a byte that is put before those from a place on
pub one_before : (bytes : List ℕ) (at byte : ℕ) → 0 < at → at ≤ length bytes → drop (at - 1) (set bytes (at - 1) byte) ≡ byte ∷ drop at bytes
one_before bytes at byte p q =
    let next : at - 1 + 1 ≡ at = omega arith in
    drop-set bytes (at - 1) byte (omega arith) ∙ ap (λ (n : ℕ). byte ∷ drop n bytes) next

pub twenty : (n : ℕ) → n < 2 ^ 64 → length (decimal n) ≤ 20
twenty n h = length-decimal-le 20 n (omega arith) (omega arith) h

module _ (n : ℕ) where
  -- a number of one digit
  module _ (last : n / 10 ≡ 0) where
    pub one : length (decimal n) ≡ 1
    one = ap length (decimal_digit n (omega arith))

    pub last_digit : (xs : List ℕ) → decimal n ++ xs ≡ (48 + n % 10) ∷ xs
    last_digit xs = ap (λ ds. ds ++ xs) (decimal_digit n (omega arith)) ∙ ap (λ (d : ℕ). (48 + d) ∷ xs) (omega arith)

  -- a number of more
  module _ (small : n < 2 ^ 64) (more : n / 10 ≡ 0 → ⊥) where
    last_of : decimal n ≡ decimal (n / 10) ++ ((48 + n % 10) ∷ [])
    last_of = decimal_step n (omega arith) small

    pub one_less : length (decimal n) ≡ length (decimal (n / 10)) + 1
    one_less = ap length last_of ∙ length_push _ _

    pub next_digit : (xs : List ℕ) → decimal n ++ xs ≡ decimal (n / 10) ++ ((48 + n % 10) ∷ xs)
    next_digit xs = ap (λ ds. ds ++ xs) last_of ∙ append_assoc (decimal (n / 10)) ((48 + n % 10) ∷ []) xs
