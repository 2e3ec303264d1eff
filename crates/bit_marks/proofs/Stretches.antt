-- Stretches counted word by word. Assumes nothing.
use Rattle.std.proofs.Common.{◌≡◌, ℕ, zero, suc, ◌+◌, ◌-◌, ◌*◌, sum, map, refl, ◌/◌, ◌%◌, ◌^◌, ◌<◌, ◌≤◌, Bool, false, cond, not, ◌&&◌, eqb, sym, ap, ◌∙◌, ap₂, add-zero, add-suc, pow-suc, arith}
use lib.Count.{ones, ones_cat, ones-ones}
use Rattle.std.proofs.lemmas.Nat.{pow_pos, shr_split, mod_below, div_below}
use Rattle.std.proofs.lemmas.Bool.{and_left}
use Rattle.std.specs.List.{range_with_len}
use Rattle.std.proofs.lemmas.List.FromFn.{sum_by-map-range_with_len_more}
use Rattle.mitl.specs.Formulas.{bit}
use Rattle.mitl.specs.Memory.{stretches}
use Rattle.bit_marks.specs.Bits.{mod_bit}

-- a digit counts as itself
one_digit : (h : ℕ) → h < 2 → ones h ≡ cond (eqb (h % 2) 1) 1 0
one_digit zero p = ones-ones 0
one_digit (suc zero) p = ones-ones 1
one_digit (suc (suc h)) p = absurd (omega arith)

-- the top bit of a word is counted apart
ones_top : (n x : ℕ) → x < 2 ^ suc n → ones x ≡ cond (bit n x) 1 0 + ones (x % 2 ^ n)
ones_top n x p =
    let top : x / 2 ^ n < 2 = div_below x (2 ^ n) 2 (pow_pos n) (omega (arith, pow-suc 2 n)) in
    ap ones (sym (shr_split x n)) ∙ ones_cat n (x / 2 ^ n) (x % 2 ^ n) (mod_below x (2 ^ n) (pow_pos n))
    ∙ ap (λ t. t + ones (x % 2 ^ n)) (one_digit (x / 2 ^ n) top)

-- the next n marks, where x has the bits of those that end a stretch
pub more_stretches : (mark : ℕ → Bool) (i n x : ℕ) → x < 2 ^ n
    → ((k : ℕ) → k < n → bit k x ≡ (mark (i + k) && not (mark (i + 1 + k)))) → stretches mark (i + n) ≡ ones x + stretches mark i
more_stretches mark i zero x p bits =
    let z : x ≡ 0 = omega arith in
    ap (stretches mark) (add-zero i) ∙ omega (arith, ap ones z ∙ ones-ones 0)
more_stretches mark i (suc n) x p bits =
    let next : suc (i + n) ≡ i + 1 + n = omega arith in
    let here : ◌≡◌ {A = ℕ} (cond (mark (i + n) && not (mark (suc (i + n)))) 1 0) (cond (bit n x) 1 0) = ap (λ t. cond {A = ℕ} t 1 0) (ap (λ j. mark (i + n) && not (mark j)) next ∙ sym (bits n (omega arith))) in
    let rest : stretches mark (i + n) ≡ ones (x % 2 ^ n) + stretches mark i = more_stretches mark i n (x % 2 ^ n) (mod_below x (2 ^ n) (pow_pos n)) (λ k h. mod_bit k x n h ∙ bits k (omega arith)) in
    ap (stretches mark) (add-suc i n) ∙ ap₂ ◌+◌ here rest ∙ omega (arith, ones_top n x p)

-- marks that are no end no stretch
pub past_stretches : (mark : ℕ → Bool) (b j : ℕ) → ((d : ℕ) → b ≤ d → mark d ≡ false) → stretches mark (b + j) ≡ stretches mark b
past_stretches mark b zero none = ap (stretches mark) (add-zero b)
past_stretches mark b (suc j) none =
    ap (stretches mark) (add-suc b j)
    ∙ ap₂ ◌+◌ (ap (λ t. cond t 1 0) (and_left (mark (b + j)) (not (mark (suc (b + j)))) (none (b + j) (omega arith)))) (past_stretches mark b j none) ∙ omega arith

-- of more marks there are as many stretches or more
stretches_le : (mark : ℕ → Bool) (i j : ℕ) → stretches mark i ≤ stretches mark (i + j)
stretches_le mark i zero = omega (arith, ap (stretches mark) (add-zero i))
stretches_le mark i (suc j) = omega (arith, ap (stretches mark) (add-suc i j), stretches_le mark i j)

-- word by word the stretches that end there are all of them
pub stretches_by_word : (mark : ℕ → Bool) (n : ℕ) → sum (map (λ at. stretches mark (64 * at + 64) - stretches mark (64 * at)) (range_with_len 0 n)) ≡ stretches mark (64 * n)
stretches_by_word mark zero = refl
stretches_by_word mark (suc n) =
    let h : ℕ → ℕ = λ at. stretches mark (64 * at + 64) - stretches mark (64 * at) in
    let one : suc n ≡ n + 1 = omega arith in
    let all : stretches mark (64 * n) + h n ≡ stretches mark (64 * n + 64) = omega (arith, stretches_le mark (64 * n) 64) in
    ap (λ m. sum (map h (range_with_len 0 m))) one ∙ sum_by-map-range_with_len_more (λ x. x) h 0 n n (omega arith) ∙ ap (λ m. m + h n) (stretches_by_word mark n) ∙ all
    ∙ ap (stretches mark) (omega arith)
