-- Marks in words: one place, a move by whole words and bits. Assumes nothing.
use Rattle.std.specs.Prelude.{◌≡◌, ℕ, zero, suc, ◌+◌, ◌-◌, ◌*◌, ◌/◌, ◌%◌, ◌^◌, ◌<◌, ◌≤◌, Bool, true, false, cond, not, ◌&&◌, List, length, replicate, Decides, bit_and, nat_le, nat_lt, slice_index, slice_index_or, slice_set, refl}
use Rattle.std.proofs.Math.Path.{sym, ap, ap₂}
use Rattle.std.proofs.Common.{subst, ◌∙◌}
use Rattle.std.proofs.Math.Logic.{⊎_elim}
use native.Mathlib.Omega.{arith}
use Rattle.std.proofs.lemmas.List.{get_or_past, get_or-set_same, get_or-set_other}
use Rattle.std.proofs.lemmas.Nat.{and_le_l}
use Rattle.std.proofs.lemmas.Bool.{cases_lt, cond-true, cond-false, le-leb, leb-true, lt-ltb, le-ltb, and_left, and_right, and_cases, true≢false, false≢true}
use Rattle.std.proofs.lemmas.Bool.Decides.{Decides-like}
use Rattle.mitl.proofs.Tests.{decides_all}
use Rattle.mitl.specs.Formulas.{bit}
use Rattle.bit_marks.specs.Marks.{marked, ends_by}
use Rattle.bit_marks.specs.Bits.{and_bit, not_bit, no_bits, zero_bit}

-- place k of word i
pub at_place : (ws : List ℕ) (d i k : ℕ) → k < 64 → d ≡ 64 * i + k → marked ws d ≡ bit k (slice_index ws i)
at_place ws d i k h e =
    let word : d / 64 ≡ i = omega arith in
    let place : d % 64 ≡ k = omega arith in
    ap₂ (λ m n. bit m (slice_index ws n)) place word

-- beyond the words every mark is no
pub past_words : (ws : List ℕ) (d : ℕ) → 64 * length ws ≤ d → marked ws d ≡ false
past_words ws d h =
    let far : length ws ≤ d / 64 = omega arith in
    ap (bit (d % 64)) (get_or_past ws (d / 64) 0 far) ∙ zero_bit (d % 64)

pub zeros : (n i : ℕ) → slice_index_or {A = ℕ} (replicate n 0) i 0 ≡ 0
zeros zero i = refl
zeros (suc n) zero = refl
zeros (suc n) (suc i) = zeros n i

-- words written one after another: the marks so far are F, and so are those of the next word
pub set_more : (ws : List ℕ) (i v : ℕ) (F : ℕ → Bool) → i < length ws → ((d : ℕ) → d < 64 * i → marked ws d ≡ F d) → ((k : ℕ) → k < 64 → bit k v ≡ F (64 * i + k))
    → (d : ℕ) → d < 64 * (i + 1) → marked (slice_set ws i v) d ≡ F d
set_more ws i v F p old new d h = ⊎_elim before here (cases_lt d (64 * i))
  where
    before : d < 64 * i → marked (slice_set ws i v) d ≡ F d
    before l =
        let other : d / 64 ≡ i → ⊥ = λ e. omega arith in
        ap (bit (d % 64)) (get_or-set_other ws i (d / 64) v 0 other) ∙ old d l

    here : 64 * i ≤ d → marked (slice_set ws i v) d ≡ F d
    here l =
        let e : d ≡ 64 * i + (d - 64 * i) = omega arith in
        let k : d - 64 * i < 64 = omega arith in
        at_place (slice_set ws i v) d i (d - 64 * i) k e ∙ ap (bit (d - 64 * i)) (get_or-set_same ws i v 0 p) ∙ new (d - 64 * i) k ∙ ap F (sym e)

none_on : (x y : Bool) → (not (x && y) ≡ true → x ≡ true → y ≡ false) × ((x ≡ true → y ≡ false) → not (x && y) ≡ true)
none_on true true = (λ e _. sym e, λ f. sym (f refl))
none_on true false = (λ _ _. refl, λ _. refl)
none_on false y = (λ _ e. absurd (false≢true e), λ _. refl)

-- no bit from b on: of every mark
pub ends_decided : (b : ℕ) (ws : List ℕ) → Decides (ends_by b ws) ((d : ℕ) → b ≤ d → marked ws d ≡ false)
unfolding ends_by
ends_decided b ws =
    Decides-like (ends_by b ws) (λ f d h. ⊎_elim (λ l. f d l h) (past_words ws d) (cases_lt d (64 * length ws))) (λ f d _ h. f d h)
    (decides_all (λ d. not (nat_le b d && marked ws d)) (λ d. b ≤ d → marked ws d ≡ false) each (64 * length ws))
  where
    each : (d : ℕ) → Decides (not (nat_le b d && marked ws d)) (b ≤ d → marked ws d ≡ false)
    each d = (
      λ e h. (none_on (nat_le b d) (marked ws d)).0 e (le-leb b d h),
      λ f. (none_on (nat_le b d) (marked ws d)).1 (λ e. f (leb-true b d e)),
    )

-- word i without its bits below b, where m has those
module _ (ws : List ℕ) (b i w m : ℕ) (read : w ≡ slice_index ws i) (fits : m < 2 ^ 64) (low : (k : ℕ) → k < 64 → bit k m ≡ nat_lt (64 * i + k) b) where
  rest : ℕ
  rest = bit_and w ((2 ^ 64 - 1) - m)

  rest_bit : (k : ℕ) → k < 64 → bit k rest ≡ (marked ws (64 * i + k) && not (nat_lt (64 * i + k) b))
  unfolding rest
  rest_bit k h =
      and_bit k w ((2 ^ 64 - 1) - m)
      ∙ ap₂ ◌&&◌ (ap (bit k) read ∙ sym (at_place ws (64 * i + k) i k h refl)) (not_bit k 64 m h fits ∙ ap not (low k h))

  -- where that is zero no mark of the word from b on is set
  pub rest_none : bit_and w ((2 ^ 64 - 1) - m) ≡ 0 → (d : ℕ) → b ≤ d → d / 64 ≡ i → marked ws d ≡ false
  unfolding rest
  rest_none e d h p =
      let k : d - 64 * i < 64 = omega arith in
      let place : 64 * i + (d - 64 * i) ≡ d = omega arith in
      let off : (marked ws (64 * i + (d - 64 * i)) && not (nat_lt (64 * i + (d - 64 * i)) b)) ≡ false = sym (rest_bit (d - 64 * i) k) ∙ ap (bit (d - 64 * i)) e ∙ zero_bit (d - 64 * i) in
      let kept : not (nat_lt d b) ≡ true = ap not (le-ltb d b h) in
      ⊎_elim (λ (x : marked ws d ≡ false). x) (λ x. absurd (true≢false (sym kept ∙ x)))
      (and_cases (marked ws d) (not (nat_lt d b)) (subst (λ n. (marked ws n && not (nat_lt n b)) ≡ false) place off))

  -- and where no mark of the word from b on is set that is zero
  pub rest_zero : w < 2 ^ 64 → ((d : ℕ) → b ≤ d → d / 64 ≡ i → marked ws d ≡ false) → bit_and w ((2 ^ 64 - 1) - m) ≡ 0
  unfolding rest
  rest_zero p none = no_bits 64 rest (omega (arith, and_le_l w ((2 ^ 64 - 1) - m))) (λ k h. rest_bit k h ∙ off k h)
    where
      off : (k : ℕ) → k < 64 → (marked ws (64 * i + k) && not (nat_lt (64 * i + k) b)) ≡ false
      off k h = ⊎_elim (λ (l : 64 * i + k < b). and_right (marked ws (64 * i + k)) (not (nat_lt (64 * i + k) b)) (ap not (lt-ltb (64 * i + k) b l)))
          (λ (l : b ≤ 64 * i + k). and_left (marked ws (64 * i + k)) (not (nat_lt (64 * i + k) b)) (none (64 * i + k) l (omega arith))) (cases_lt (64 * i + k) b)

-- the 64 marks from mark d on, of two neighbouring words
pub from_place : (ws : List ℕ) (d k : ℕ) → k < 64
    → cond (nat_lt (k + d % 64) 64) (bit (k + d % 64) (slice_index ws (d / 64))) (bit (k + d % 64 - 64) (slice_index ws (d / 64 + 1))) ≡ marked ws (d + k)
from_place ws d k h =
    ⊎_elim
    (λ (l : k + d % 64 < 64). cond-true (nat_lt (k + d % 64) 64) _ _ (lt-ltb (k + d % 64) 64 l) ∙ sym (at_place ws (d + k) (d / 64) (k + d % 64) l (omega arith)))
    (λ (l : 64 ≤ k + d % 64). cond-false (nat_lt (k + d % 64) 64) _ _ (le-ltb (k + d % 64) 64 l) ∙ sym (at_place ws (d + k) (d / 64 + 1) (k + d % 64 - 64) (omega arith) (omega arith)))
    (cases_lt (k + d % 64) 64)
