-- The memories of the rows, told one after another. Assumes nothing.
use Rattle.std.proofs.Common.{◌≡◌, ℕ, ◌+◌, Bool, true, false, cond, List, get_or, sym, ap, ◌∙◌, ap₂, inl, inr, arith, below_more}
use Rattle.std.proofs.lemmas.Bool.{cases_Bool}
use Rattle.mitl.specs.declared.Row.{Row}
use Rattle.mitl.specs.Blocks.{advanced}
use Rattle.mitl.specs.Memory.{Meaning}
use Rattle.mitl.specs.Rows.{row_at, is_timed, timed_before}
use Rattle.engine.specs.Steps.{Told, Advanced}
use Rattle.engine.proofs.Plans.{timed_past, timed_next}

module _ {X : Type 0} (meaning : X → Meaning) (rows : List Row) (v : ℕ → Bool) (n k : ℕ) (xs ys zs : List X) (row : Row) (at : ℕ) where
  pub advanced_more : Advanced meaning rows v n k xs ys → row_at rows k ≡ row → at ≡ timed_before rows k
      → Told meaning (advanced row v n) at ys zs → (is_timed row ≡ false → zs ≡ ys) → Advanced meaning rows v n (k + 1) xs zs
  advanced_more a is place told still = record {
    there = λ j z lt.
        below_more (λ j. is_timed (row_at rows j) ≡ true → meaning (get_or zs (timed_before rows j) z) ≡ advanced (row_at rows j) v n (meaning (get_or xs (timed_before rows j) z))) k
        (λ j low timed. let less = timed_past rows j k low timed in ap meaning (told.others (timed_before rows j) z (omega arith)) ∙ a.there j z low timed)
        (λ timed.
        ap (λ i. meaning (get_or zs i z)) (sym place) ∙ told.there z
        ∙ ap₂ (λ r i. advanced r v n (meaning (get_or ys i z))) (sym is) place
        ∙ ap (λ m. advanced (row_at rows k) v n (meaning m)) (a.past (timed_before rows k) z (omega arith)))
        j lt;
    past = λ i z le.
        elim (cases_Bool (is_timed row)) [
          | inl timed ↦
              (let one : ◌≡◌ {A = ℕ} (cond (is_timed (row_at rows k)) 1 0) 1 = ap (λ b. cond b 1 0) (ap is_timed is ∙ timed) in
              told.others i z (omega (arith, one, timed_next rows k)) ∙ a.past i z (omega (arith, one, timed_next rows k)))
          | inr plain ↦ ap (λ ms. get_or ms i z) (still plain) ∙ a.past i z (omega (arith, timed_next rows k))
        ];
  }
