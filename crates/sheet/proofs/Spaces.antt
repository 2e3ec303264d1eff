-- V and three texts with a space before each, and lines that are not so. Assumes nothing.
use Rattle.std.proofs.Common.{◌≡◌, ℕ, List, ◌∷◌, ◌++◌, length, get_or, Some, None, Option, refl, ap, ◌∙◌, arith, Bor, MatchOption}
use Rattle.std.proofs.lemmas.List.{get_or_at, length-append}
use Rattle.sheet.specs.Pieces.{Spaceless, laid, AfterLetter, Fields}

-- a text with a space in it is not without
spaced : (s x y : List ℕ) → s ≡ x ++ (32 ∷ y) → Spaceless s → ⊥
spaced s x y e none = none (length x) (omega (arith, ap length e ∙ length-append x (32 ∷ y))) (ap (λ t. get_or t (length x) 0) e ∙ get_or_at x 32 y 0 (length x) refl)

-- V, and then a space or none
pub then_space : (line x : List ℕ) → line ≡ 86 ∷ x → (r : Option (Bor (List ℕ))) → MatchOption r ((rest : List ℕ) → x ≡ 32 ∷ rest → ⊥) (λ t. x ≡ 32 ∷ t.now) → AfterLetter line r
then_space line x letter None none = λ t e. none t (cc)
then_space line x letter (Some t) space = letter ∙ ap (λ s. 86 ∷ s) space

module _ (line : List ℕ) where
  pub no_letter : ((t : List ℕ) → line ≡ 86 ∷ 32 ∷ t → ⊥) → Fields line None
  no_letter none a b d _ _ e = none _ e

  module _ (t : List ℕ) (letter : line ≡ 86 ∷ 32 ∷ t) where
    rest_is : (a b d : List ℕ) → line ≡ laid a b d → t ≡ a ++ (32 ∷ (b ++ (32 ∷ d)))
    rest_is a b d e = cc

    pub no_second : Spaceless t → Fields line None
    no_second none a b d _ _ e = spaced t a (b ++ (32 ∷ d)) (rest_is a b d e) none

    -- where the text is cut at its first space, and the rest has none
    pub no_third : (u : List ℕ) → ((a y : List ℕ) → Spaceless a → t ≡ a ++ (32 ∷ y) → u ≡ y) → Spaceless u → Fields line None
    no_third u cut none a b d p _ e = spaced u b d (cut a (b ++ (32 ∷ d)) p (rest_is a b d e)) none

    pub all_laid : (a u b d : List ℕ) → t ≡ a ++ (32 ∷ u) → u ≡ b ++ (32 ∷ d) → line ≡ laid a b d
    all_laid a u b d e f = letter ∙ ap (λ s. 86 ∷ 32 ∷ s) (e ∙ ap (λ s. a ++ (32 ∷ s)) f)
