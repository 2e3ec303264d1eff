-- Numbers in a line: they have no space, so that a line is cut in one way. Assumes nothing.
use Rattle.std.proofs.Common.{◌≡◌, ℕ, zero, suc, ◌^◌, ◌<◌, List, [], ◌∷◌, ◌++◌, length, get_or, drop, Some, None, Ok, Err, IsUtf8, Result, MatchResult, sym, refl, ap, ◌∙◌, subst, ⊎_elim, arith, length-drop}
use Rattle.std.specs.Result.{result_ok}
use Rattle.std.specs.Str.{IsAscii}
use Rattle.std.proofs.lemmas.Str.Ascii.{IsAscii-from_reads, IsAscii-cons}
use Rattle.std.proofs.lemmas.Str.{IsUtf8-from_ascii, IsAscii-append}
use Rattle.std.specs.Str.Parse.{IsNumeral, without_leading_plus, ParsesUnsigned}
use Rattle.std.proofs.lemmas.List.{get_or-drop}
use Rattle.std.proofs.lemmas.Str.Parse.{digit_at, without_leading_plus_none, without_leading_plus_plus}
use Rattle.std.proofs.lemmas.Bool.{cases_eq}
use Rattle.record.specs.declared.Note.{Note}
use Rattle.sheet.specs.Pieces.{Spaceless, Number, laid, Line, Fields, Told}

-- the bytes of a number are above a space and below 128
Plain : List ℕ → Type 0
Plain s = (i : ℕ) → i < length s → (32 < get_or s i 0) × (get_or s i 0 < 128)

digits : (s : List ℕ) → IsNumeral 10 s → Plain s
unfolding Plain
digits s h i l = let b = digit_at s i h.1 l in (omega (arith, b.0), omega (arith, b.1))

plain : (s : List ℕ) → IsNumeral 10 (without_leading_plus s) → Plain s
unfolding Plain
plain s h = ⊎_elim plus (λ ne. digits s (subst (IsNumeral 10) (without_leading_plus_none s ne) h)) (cases_eq (get_or s 0 0) 43)
  where
    plus : get_or s 0 0 ≡ 43 → Plain s
    plus p zero l = (omega arith, omega arith)
    plus p (suc i) l =
        let at : get_or (drop 1 s) i 0 ≡ get_or s (suc i) 0 = get_or-drop 1 s i 0 ∙ ap (λ k. get_or s k 0) (omega arith) in
        let h = digits (drop 1 s) (subst (IsNumeral 10) (without_leading_plus_plus s p) h) i (simp length-drop (omega arith)) in
        (omega (arith, at, h.0), omega (arith, at, h.1))

pub spaceless : (s : List ℕ) → IsNumeral 10 (without_leading_plus s) → Spaceless s
unfolding Plain
spaceless s h i l e = let k = plain s h i l in omega (arith, k.0, e)

low : (s : List ℕ) → IsNumeral 10 (without_leading_plus s) → IsAscii s
unfolding Plain
low s h = IsAscii-from_reads s (length s) (omega arith) (λ k l. (plain s h k l).1)

-- the line of a note is text
pub line_text : (n : Note) (line : List ℕ) → Line n line → IsUtf8 line
line_text n line l =
    let second = l.second ++ (32 ∷ l.third) in
    let first = l.first ++ (32 ∷ second) in
    let c = IsAscii-cons 32 l.third (omega arith) (low l.third l.ticks_is.0) in
    let b = IsAscii-cons 32 second (omega arith) (IsAscii-append l.second (32 ∷ l.third) (low l.second l.word_is.0) c) in
    let a = IsAscii-cons 32 first (omega arith) (IsAscii-append l.first (32 ∷ second) (low l.first l.car_is.0) b) in
    IsUtf8-from_ascii line (subst IsAscii (sym l.laid_out) (IsAscii-cons 86 (32 ∷ first) (omega arith) a))

-- bytes that are not text
pub not_text : {A E : Type 0} (line : List ℕ) (P : A → Type 0) (Q : E → Type 0) (r : Result A E) → None ≡ result_ok r → MatchResult r P (λ e. ¬ IsUtf8 line × Q e) → IsUtf8 line → ⊥
not_text line P Q (Ok x) none h = absurd (cc)
not_text line P Q (Err e) none h = h.0

later : (a : ℕ) (s : List ℕ) → Spaceless (a ∷ s) → Spaceless s
later a s none i l e = none (suc i) (omega arith) e

-- a text is cut at its first space in one way
one_cut : (x x' y y' : List ℕ) → Spaceless x → Spaceless x' → x ++ (32 ∷ y) ≡ x' ++ (32 ∷ y') → (x ≡ x') × (y ≡ y')
one_cut [] [] y y' p q e = (refl, (cc))
one_cut [] (b ∷ bs) y y' p q e = let f : b ≡ 32 = cc in absurd (q 0 (omega arith) f)
one_cut (a ∷ s) [] y y' p q e = let f : a ≡ 32 = cc in absurd (p 0 (omega arith) f)
one_cut (a ∷ s) (b ∷ bs) y y' p q e =
    let f : a ≡ b = cc in
    let t : s ++ (32 ∷ y) ≡ bs ++ (32 ∷ y') = cc in
    let h = one_cut s bs y y' (later a s p) (later b bs q) t in
    (λ i. f i ∷ h.0 i, h.1)

laid_once : (a b d a' b' d' : List ℕ) → Spaceless a → Spaceless b → Spaceless a' → Spaceless b' → laid a b d ≡ laid a' b' d' → (a ≡ a') × (b ≡ b') × (d ≡ d')
laid_once a b d a' b' d' p q p' q' e =
    let t : a ++ (32 ∷ (b ++ (32 ∷ d))) ≡ a' ++ (32 ∷ (b' ++ (32 ∷ d'))) = cc in
    let h = one_cut a a' _ _ p p' t in
    let k = one_cut b b' d d' q q' h.1 in
    (h.0, k.0, k.1)

-- no line has a note where it has no three texts
pub none_told : (line : List ℕ) → Fields line None → Told line None
none_told line h n s l = h l.first l.second l.third (spaceless _ l.car_is.0) (spaceless _ l.word_is.0) l.laid_out

-- the three texts of a note's line are its numbers
module _ (line a b d : List ℕ) (out : line ≡ laid a b d) (p : Spaceless a) (q : Spaceless b) (n : Note) (l : Line n line) where
  once : (a ≡ l.first) × (b ≡ l.second) × (d ≡ l.third)
  once = laid_once a b d l.first l.second l.third p q (spaceless _ l.car_is.0) (spaceless _ l.word_is.0) (sym out ∙ l.laid_out)

  pub car_number : Number n.car.number a
  car_number = subst (Number n.car.number) (sym once.0) l.car_is

  pub word_number : Number n.word b
  word_number = subst (Number n.word) (sym once.1) l.word_is

  pub ticks_number : Number n.ticks d
  ticks_number = subst (Number n.ticks) (sym once.2) l.ticks_is

-- what is a number that fits is parsed
pub not_parsed : {E : Type 0} (k : ℕ) (text : List ℕ) (r : Result ℕ E) → ParsesUnsigned k 10 text r → None ≡ result_ok r → (m : ℕ) → m < 2 ^ k → Number m text → ⊥
not_parsed k text (Ok x) h e m lt nr = absurd (cc)
not_parsed k text (Err x) h e m lt nr = h (nr.0, subst (λ v. v < 2 ^ k) nr.1 lt)

pub parsed : {E : Type 0} (k : ℕ) (text : List ℕ) (r : Result ℕ E) → ParsesUnsigned k 10 text r → (x : ℕ) → Some x ≡ result_ok r → (m : ℕ) → Number m text → m ≡ x
parsed k text (Ok y) h x e m nr = let f : x ≡ y = cc in nr.1 ∙ sym h.1 ∙ sym f
parsed k text (Err y) h x e m nr = absurd (cc)
