-- The bits of a word after shifts, masks, or, and, not. Assumes nothing.
use Rattle.std.specs.Prelude.{◌≡◌, ℕ, zero, suc, ◌+◌, ◌-◌, ◌*◌, ◌/◌, ◌%◌, ◌^◌, ◌<◌, ◌≤◌, Bool, true, false, cond, not, ◌&&◌, ◌||◌, ◌⊎◌, ◌==◌, bit_and, bit_or, nat_eq, nat_lt, refl}
use Rattle.std.proofs.Common.{sym, ap, ap₂, subst, ◌∙◌, inl, inr, ⊎_elim, pow-suc, mul_assoc, div-one, arith, pow_mono}
use Rattle.std.proofs.Math.Nat.{zero-div, div-eq_of_lt}
use Rattle.std.proofs.lemmas.Nat.{pow_pos, pow-add, shl-shr, shr-shr, and_mask, and_shr, and_mod, or_shr, or_mod, field_of, mod-pow-add}
use Rattle.std.proofs.lemmas.Bool.{eqb-false, cases_lt, lt-ltb, le-ltb, cond-true, cond-false}
use Rattle.std.proofs.lemmas.Bool.Decides.{nat_tests}
use Rattle.mitl.specs.Formulas.{bit}

pub has_bit : (w i : ℕ) → (bit_and (w / 2 ^ i) 1 == 1) ≡ bit i w
has_bit w i = ap (λ x. nat_eq x 1) (and_mask (w / 2 ^ i) 1)

zero_one : (n : ℕ) → n < 2 → (n ≡ 0) ⊎ (n ≡ 1)
zero_one zero h = inl refl
zero_one (suc zero) h = inr refl
zero_one (suc (suc n)) h = absurd (omega arith)

-- what holds of the two digits holds of every two numbers below 2
two_digits : (P : ℕ → ℕ → Type 0) → P 0 0 → P 0 1 → P 1 0 → P 1 1 → (x y : ℕ) → x < 2 → y < 2 → P x y
two_digits P a b c d x y p q = go (zero_one x p) (zero_one y q)
  where
    go : (x ≡ 0) ⊎ (x ≡ 1) → (y ≡ 0) ⊎ (y ≡ 1) → P x y
    go (inl e) (inl f) = subst (λ n. P n y) (sym e) (subst (P 0) (sym f) a)
    go (inl e) (inr f) = subst (λ n. P n y) (sym e) (subst (P 0) (sym f) b)
    go (inr e) (inl f) = subst (λ n. P n y) (sym e) (subst (P 1) (sym f) c)
    go (inr e) (inr f) = subst (λ n. P n y) (sym e) (subst (P 1) (sym f) d)

pub or_bit : (k x y : ℕ) → bit k (bit_or x y) ≡ (bit k x || bit k y)
or_bit k x y =
    ap (λ n. nat_eq n 1) (ap (λ n. n % 2) (or_shr x y k) ∙ or_mod (x / 2 ^ k) (y / 2 ^ k) 1)
    ∙ two_digits (λ m n. (bit_or m n == 1) ≡ (m == 1 || n == 1)) refl refl refl refl (x / 2 ^ k % 2) (y / 2 ^ k % 2) (omega arith) (omega arith)

pub and_bit : (k x y : ℕ) → bit k (bit_and x y) ≡ (bit k x && bit k y)
and_bit k x y =
    ap (λ n. nat_eq n 1) (ap (λ n. n % 2) (and_shr x y k) ∙ and_mod (x / 2 ^ k) (y / 2 ^ k) 1)
    ∙ two_digits (λ m n. (bit_and m n == 1) ≡ (m == 1 && n == 1)) refl refl refl refl (x / 2 ^ k % 2) (y / 2 ^ k % 2) (omega arith) (omega arith)

pub zero_bit : (k : ℕ) → bit k 0 ≡ false
zero_bit k = ap (λ n. nat_eq (n % 2) 1) (zero-div (2 ^ k))

pub low_bit : (x : ℕ) → bit 0 x ≡ (x % 2 == 1)
low_bit x = ap (λ n. nat_eq (n % 2) 1) (div-one x)

pub next_bit : (k x : ℕ) → bit (suc k) x ≡ bit k (x / 2)
next_bit k x = ap (λ n. nat_eq (n % 2) 1) (ap (λ j. x / 2 ^ j) (omega arith) ∙ sym (shr-shr x 1 k))

pub shr_bit : (k x j : ℕ) → bit k (x / 2 ^ j) ≡ bit (k + j) x
shr_bit k x j = ap (λ n. nat_eq (n % 2) 1) (shr-shr x j k ∙ ap (λ n. x / 2 ^ n) (omega arith))

pub shl_high : (k x j : ℕ) → j ≤ k → bit k (x * 2 ^ j) ≡ bit (k - j) x
shl_high k x j h =
    ap (λ n. bit n (x * 2 ^ j)) (omega arith) ∙ sym (shr_bit (k - j) (x * 2 ^ j) j) ∙ ap (bit (k - j)) (shl-shr x j)

pub shl_low : (k x j : ℕ) → k < j → bit k (x * 2 ^ j) ≡ false
shl_low k x j h =
    let e : j ≡ ((j - k - 1) + 1) + k = omega arith in
    let p : 2 ^ j ≡ (2 ^ (j - k - 1) * 2) * 2 ^ k = ap (λ n. 2 ^ n) e ∙ pow-add 2 ((j - k - 1) + 1) k ∙ ap (λ n. n * 2 ^ k) (pow-add 2 (j - k - 1) 1) in
    let q : x * 2 ^ j / 2 ^ k ≡ x * (2 ^ (j - k - 1) * 2) = ap (λ n. x * n / 2 ^ k) p ∙ ap (λ n. n / 2 ^ k) (sym (mul_assoc x (2 ^ (j - k - 1) * 2) (2 ^ k))) ∙ shl-shr (x * (2 ^ (j - k - 1) * 2)) k in
    let r : x * (2 ^ (j - k - 1) * 2) ≡ (x * 2 ^ (j - k - 1)) * 2 = sym (mul_assoc x (2 ^ (j - k - 1)) 2) in
    let even : x * 2 ^ j / 2 ^ k % 2 ≡ 0 = ap (λ n. n % 2) (q ∙ r) ∙ omega arith in
    ap (λ n. nat_eq n 1) even

pub mod_bit : (k x n : ℕ) → k < n → bit k (x % 2 ^ n) ≡ bit k x
mod_bit k x n h =
    let e : n ≡ ((n - k - 1) + 1) + k = omega arith in
    let p : x % 2 ^ n / 2 ^ k ≡ x / 2 ^ k % 2 ^ ((n - k - 1) + 1) = ap (λ m. x % 2 ^ m / 2 ^ k) e ∙ field_of x ((n - k - 1) + 1) k in
    ap (λ m. nat_eq m 1) (ap (λ m. m % 2) (p ∙ mod-pow-add (x / 2 ^ k) (n - k - 1) 1) ∙ omega arith)

-- the other bits of n places
pub not_bit : (k n x : ℕ) → k < n → x < 2 ^ n → bit k ((2 ^ n - 1) - x) ≡ not (bit k x)
not_bit k zero x h p = absurd (omega arith)
not_bit zero (suc n) x h p = low_bit ((2 ^ suc n - 1) - x) ∙ flipped ∙ ap not (sym (low_bit x))
  where
    two : 2 ^ suc n ≡ 2 ^ n * 2
    two = pow-suc 2 n

    flipped : nat_eq (((2 ^ suc n - 1) - x) % 2) 1 ≡ not (x % 2 == 1)
    flipped = grind (arith, nat_tests, two)
not_bit (suc k) (suc n) x h p =
    next_bit k ((2 ^ suc n - 1) - x) ∙ ap (bit k) half ∙ not_bit k n (x / 2) (omega arith) (omega (arith, pow-suc 2 n))
    ∙ ap not (sym (next_bit k x))
  where
    half : ((2 ^ suc n - 1) - x) / 2 ≡ (2 ^ n - 1) - x / 2
    half = omega (arith, pow-suc 2 n)

-- j ones
pub ones_bit : (k j : ℕ) → bit k (2 ^ j - 1) ≡ nat_lt k j
ones_bit k zero = zero_bit k ∙ grind (arith, nat_tests)
ones_bit zero (suc j) =
    let odd : (2 ^ suc j - 1) % 2 ≡ 1 = omega (arith, pow-suc 2 j, pow_pos j) in
    low_bit (2 ^ suc j - 1) ∙ ap (λ n. nat_eq n 1) odd ∙ grind (arith, nat_tests)
ones_bit (suc k) (suc j) =
    let half : (2 ^ suc j - 1) / 2 ≡ 2 ^ j - 1 = omega (arith, pow-suc 2 j, pow_pos j) in
    next_bit k (2 ^ suc j - 1) ∙ ap (bit k) half ∙ ones_bit k j ∙ grind (arith, nat_tests)

-- a word without a bit is zero
pub no_bits : (n x : ℕ) → x < 2 ^ n → ((k : ℕ) → k < n → bit k x ≡ false) → x ≡ 0
no_bits zero x p h = omega arith
no_bits (suc n) x p h =
    let low : x % 2 ≡ 1 → ⊥ = eqb-false (x % 2) 1 (sym (low_bit x) ∙ h 0 (omega arith)) in
    let high : x / 2 ≡ 0 = no_bits n (x / 2) (omega (arith, pow-suc 2 n)) (λ k q. sym (next_bit k x) ∙ h (suc k) (omega arith)) in
    let rest : x % 2 ≡ 0 = ⊎_elim (λ e. e) (λ e. absurd (low e)) (zero_one (x % 2) (omega arith)) in
    omega arith

-- a number has no bits past its length
pub high_bit : (k j x : ℕ) → x < 2 ^ j → j ≤ k → bit k x ≡ false
high_bit k j x p h =
    let more : 2 ^ j ≤ 2 ^ k = pow_mono h in
    let q : x < 2 ^ k = omega arith in
    ap (λ n. nat_eq (n % 2) 1) (div-eq_of_lt q)

or_no : (x : Bool) → (x || false) ≡ x
or_no true = refl
or_no false = refl

-- a bit of a low and a high word, from place s on
pub joined_bit : (k x y s : ℕ) → x < 2 ^ 64 → k < 64 → 0 < s → s < 64
    → bit k (bit_or (x / 2 ^ s) ((y * 2 ^ (64 - s)) % 2 ^ 64)) ≡ cond (nat_lt (k + s) 64) (bit (k + s) x) (bit (k + s - 64) y)
joined_bit k x y s fit h p q =
    or_bit k (x / 2 ^ s) ((y * 2 ^ (64 - s)) % 2 ^ 64) ∙ ap₂ ◌||◌ (shr_bit k x s) (mod_bit k (y * 2 ^ (64 - s)) 64 h)
    ∙ ⊎_elim within across (cases_lt (k + s) 64)
  where
    within : k + s < 64 → (bit (k + s) x || bit k (y * 2 ^ (64 - s))) ≡ cond (nat_lt (k + s) 64) (bit (k + s) x) (bit (k + s - 64) y)
    within l =
        ap (λ t. bit (k + s) x || t) (shl_low k y (64 - s) (omega arith)) ∙ or_no (bit (k + s) x)
        ∙ sym (cond-true (nat_lt (k + s) 64) (bit (k + s) x) (bit (k + s - 64) y) (lt-ltb (k + s) 64 l))

    across : 64 ≤ k + s → (bit (k + s) x || bit k (y * 2 ^ (64 - s))) ≡ cond (nat_lt (k + s) 64) (bit (k + s) x) (bit (k + s - 64) y)
    across l =
        let e : k - (64 - s) ≡ k + s - 64 = omega arith in
        ap₂ ◌||◌ (high_bit (k + s) 64 x fit l) (shl_high k y (64 - s) (omega arith) ∙ ap (λ n. bit n y) e)
        ∙ sym (cond-false (nat_lt (k + s) 64) (bit (k + s) x) (bit (k + s - 64) y) (le-ltb (k + s) 64 l))
