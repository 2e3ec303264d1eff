-- Numbers of several bytes, and twelve bytes by their elements. Assumes nothing.
use Rattle.std.proofs.Common.{◌≡◌, ℕ, suc, ◌+◌, ◌*◌, ◌/◌, ◌%◌, ◌<◌, List, [], ◌∷◌, length, get_or, drop, ap, ◌∙◌, arith, drop-cons}
use Rattle.std.proofs.lemmas.List.{drop_all}
use Rattle.record.specs.Layout.{two, four}

pub two_back : (a b n : ℕ) → a < 256 → b < 256 → n ≡ a * 256 + b → two n ≡ a ∷ b ∷ []
two_back a b n p q e =
    let x : n / 256 % 256 ≡ a = omega arith in
    let y : n % 256 ≡ b = omega arith in
    cc

pub four_back : (a b c d n : ℕ) → a < 256 → b < 256 → c < 256 → d < 256 → n ≡ a * 16777216 + b * 65536 + c * 256 + d → four n ≡ a ∷ b ∷ c ∷ d ∷ []
four_back a b c d n p q r s e =
    let x : n / 16777216 % 256 ≡ a = omega arith in
    let y : n / 65536 % 256 ≡ b = omega arith in
    let z : n / 256 % 256 ≡ c = omega arith in
    let w : n % 256 ≡ d = omega arith in
    cc

-- the list by its first twelve elements
pub twelve : (s : List ℕ) → length s ≡ 12 →
    s ≡ get_or s 0 0 ∷ get_or s 1 0 ∷ get_or s 2 0 ∷ get_or s 3 0 ∷ get_or s 4 0 ∷ get_or s 5 0 ∷ get_or s 6 0 ∷ get_or s 7 0 ∷ get_or s 8 0 ∷ get_or s 9 0 ∷ get_or s 10 0 ∷ get_or s 11 0 ∷ []
twelve s h = at 0 (omega arith) ∙ push 0 (at 1 (omega arith) ∙ push 1 (at 2 (omega arith) ∙ push 2 (at 3 (omega arith) ∙ push 3 (at 4 (omega arith) ∙ push 4 (at 5 (omega arith) ∙ push 5 (at 6 (omega arith) ∙ push 6 (at 7 (omega arith) ∙ push 7 (at 8 (omega arith) ∙ push 8 (at 9 (omega arith) ∙ push 9 (at 10 (omega arith) ∙ push 10 (at 11 (omega arith) ∙ push 11 (drop_all 12 s (omega arith)))))))))))))
  where
    at : (i : ℕ) → i < length s → drop i s ≡ get_or s i 0 ∷ drop (suc i) s
    at i l = drop-cons s i 0 l

    push : (i : ℕ) {x y : List ℕ} → x ≡ y → (get_or s i 0 ∷ x) ≡ (get_or s i 0 ∷ y)
    push i e = ap (λ l. get_or s i 0 ∷ l) e
