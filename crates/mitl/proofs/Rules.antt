-- The rules of a chain in the verdict word. Assumes nothing.
use Rattle.std.proofs.Common.{◌≡◌, ℕ, zero, suc, ◌+◌, ◌<◌, ◌≤◌, Bool, true, false, ◌&&◌, ◌||◌, List, ◌++◌, length, replicate, Decides, sym, refl, ap, ◌∙◌, subst, ap₂, inl, inr, arith}
use mathlib.Core.Bool.{false≢true}
use Rattle.std.proofs.lemmas.Bool.{cases_lt, eqb-true, eq-eqb}
use Rattle.std.proofs.lemmas.Bool.Decides.{same_from_decides, Decides-like, Decides-and}
use Rattle.mitl.specs.declared.Row.{Row}
use Rattle.mitl.specs.declared.Row.TheVariants.{Rule}
use Rattle.mitl.specs.Formulas.{bit, sat}
use Rattle.mitl.specs.Rows.{row_at, Chained, formula_of, formulas, read, is_rule, rule_by, rule, verdict, RulesApart}
use Rattle.mitl.specs.Windows.{some_below}
use Rattle.mitl.specs.Blocks.{Steady}
use Rattle.mitl.proofs.Tests.{itself, no_from_none, decides_some}
use Rattle.mitl.proofs.Rows.{formulas_at}
use Rattle.mitl.proofs.Words.{bit_word, bit_high, word_lt, word_known, word_only}

rule_row : (i : ℕ) (r : Row) → is_rule i r ≡ true → (l : ℕ) × (r ≡ Rule i l)
rule_row i (Rule j l) e = (l, ap (λ n. Rule n l) (sym (eqb-true i j e)))
rule_row i r e = absurd (false≢true e)

row_rule : (i l : ℕ) (r : Row) → r ≡ Rule i l → is_rule i r ≡ true
row_rule i l r e = ap (is_rule i) e ∙ eq-eqb i i refl

module _ (rows : List Row) (h : List ℕ) (t : ℕ) where
  abbrev Ruled : ℕ → Type 0
  Ruled i = (k : ℕ) × (k < length rows) × ((is_rule i (row_at rows k) ≡ true) × (read rows h k t ≡ true))

  decides_rule : (i : ℕ) → Decides (rule rows h t i) (Ruled i)
  decides_rule i = decides_some _ _ (λ k. Decides-and _ _ (itself _) (itself _)) (length rows)

  rule_bare : (i : ℕ) → ((k l : ℕ) → k < length rows → row_at rows k ≡ Rule i l → ⊥) → rule rows h t i ≡ false
  rule_bare i none =
      no_from_none _ (decides_rule i) (λ r. let row = rule_row i (row_at rows r.0) r.2.0 in none r.0 row.0 r.1 row.1)

  rule_ruled : Chained rows → RulesApart rows → (k i l : ℕ) → k < length rows → row_at rows k ≡ Rule i l → rule rows h t i ≡ read rows h l t
  rule_ruled chained apart k i l lt at =
      same_from_decides _ _ (Decides-like _ back forth (decides_rule i)) (itself _)
      ∙ ap (λ f. sat f h t) (formulas_at rows chained k lt ∙ ap (formula_of (formulas rows)) at)
    where
      back : Ruled i → read rows h k t ≡ true
      back r =
          let row = rule_row i (row_at rows r.0) r.2.0 in
          subst (λ j. read rows h j t ≡ true) (apart i r.0 k row.0 l r.1 lt row.1 at) r.2.1

      forth : read rows h k t ≡ true → Ruled i
      forth e = (k, lt, (row_rule i l (row_at rows k) at, e))

pub verdict_small : (rows : List Row) (h : List ℕ) (t : ℕ) → verdict rows h t < 65536
unfolding verdict
verdict_small rows h t = word_lt (rule rows h t) 16

pub verdict_bits : (rows : List Row) (h : List ℕ) (t i : ℕ) → i < 16 → bit i (verdict rows h t) ≡ rule rows h t i
unfolding verdict
verdict_bits rows h t = bit_word (rule rows h t) 16

pub verdict_only : (rows : List Row) (h : List ℕ) (t w : ℕ) → w < 65536 → ((i : ℕ) → i < 16 → bit i w ≡ rule rows h t i) → w ≡ verdict rows h t
unfolding verdict
verdict_only rows h t = word_only (rule rows h t) 16

pub known_by_bits : (w x : ℕ) → w < 65536 → x < 65536 → ((i : ℕ) → i < 16 → bit i w ≡ bit i x) → w ≡ x
known_by_bits = word_known 16

pub verdict_ruled : (rows : List Row) → Chained rows → RulesApart rows → (k i l : ℕ) → k < length rows → row_at rows k ≡ Rule i l
    → i < 16 → (h : List ℕ) (t : ℕ) → bit i (verdict rows h t) ≡ read rows h l t
verdict_ruled rows chained apart k i l lt at small h t = verdict_bits rows h t i small ∙ rule_ruled rows h t chained apart k i l lt at

pub verdict_bare : (rows : List Row) (i : ℕ) → ((k l : ℕ) → k < length rows → row_at rows k ≡ Rule i l → ⊥) → (h : List ℕ) (t : ℕ) → bit i (verdict rows h t) ≡ false
verdict_bare rows i none h t =
    elim (cases_lt i 16) [
      | inl small ↦ verdict_bits rows h t i small ∙ rule_bare rows h t i none
      | inr high ↦ bit_high 16 i (verdict rows h t) (verdict_small rows h t) high
    ]

pub some_below_same : (p q : ℕ → Bool) (n : ℕ) → ((k : ℕ) → k < n → p k ≡ q k) → some_below p n ≡ some_below q n
some_below_same p q zero same = refl
some_below_same p q (suc n) same = ap₂ ◌||◌ (same n (omega arith)) (some_below_same p q n (λ k lt. same k (omega arith)))

-- the word made of values that the rows keep over a block is the verdict there
pub block_verdict : (rows : List Row) (h : List ℕ) (n w : ℕ) (v : ℕ → Bool) → Steady rows h n w v (length rows)
    → (x : ℕ) → x < 65536 → ((i : ℕ) → i < 16 → bit i x ≡ rule_by rows v i) → (u : ℕ) → length h ≤ u → u < length h + n → x ≡ verdict rows (h ++ replicate n w) u
block_verdict rows h n w v steady x small bits u low high =
    verdict_only rows (h ++ replicate n w) u x small
    (λ i lt. bits i lt ∙ some_below_same _ _ (length rows) (λ k within. ap (λ b. is_rule i (row_at rows k) && b) (sym (steady k within u low high))))
