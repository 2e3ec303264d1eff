-- Memories prepared for the rows of a chain. Assumes nothing.
use Rattle.std.proofs.Common.{◌≡◌, ℕ, ◌+◌, ◌<◌, Bool, true, false, cond, List, get_or, sym, refl, ap, ◌∙◌, subst, inl, inr, zero-add, arith}
use Rattle.std.proofs.lemmas.Bool.{both_ways, cases_eq, cases_Bool}
use Rattle.mitl.specs.declared.Row.{Row}
use Rattle.mitl.specs.Memory.{Meaning}
use Rattle.mitl.specs.Outlook.{row_from, row_to}
use Rattle.mitl.specs.Rows.{row_at, is_timed, timed_before}
use Rattle.engine.proofs.Plans.{timed_past, timed_next}
use Rattle.memories.specs.Parts.{Ready, Readied, PreparedAt}

module _ {X : Type 0} (meaning : X → Meaning) (admitted : ℕ → ℕ → Bool) (rows : List Row) (ms : List X) where
  -- the memory of the row at place p is prepared for it
  abbrev ForRow : ℕ → X → X → Type 0
  ForRow p x y = Ready meaning admitted (row_from (row_at rows p)) (row_to (row_at rows p)) x y

  pub readied_none : Readied meaning admitted rows 0 ms ms
  readied_none = record { long = refl; there = λ _ p m lt. absurd (omega arith); past = λ k m le. refl }

  timed_more : (k : ℕ) → is_timed (row_at rows k) ≡ true → timed_before rows (k + 1) ≡ timed_before rows k + 1
  timed_more k timed = timed_next rows k ∙ ap (λ b. cond b 1 0 + timed_before rows k) timed ∙ omega arith

  timed_same : (k : ℕ) → is_timed (row_at rows k) ≡ false → timed_before rows (k + 1) ≡ timed_before rows k
  timed_same k off = timed_next rows k ∙ ap (λ b. cond b 1 0 + timed_before rows k) off ∙ zero-add _

  readied_timed : (k at : ℕ) (xs ys : List X) → at ≡ timed_before rows k → is_timed (row_at rows k) ≡ true
      → Readied meaning admitted rows k ms xs → PreparedAt meaning admitted at (row_from (row_at rows k)) (row_to (row_at rows k)) xs ys → Readied meaning admitted rows (k + 1) ms ys
  readied_timed k at xs ys place timed r p = record {
    long = p.long ∙ r.long;
    there = λ enough q m low q-timed.
        elim (cases_eq q k) [
          | inl is ↦
              let here = subst (λ x. ForRow k x (get_or ys at m)) (r.past at m (omega (arith, place))) (p.there m (omega (arith, r.long, enough, timed_more k timed, place))) in
              subst (λ j. ForRow j (get_or ms (timed_before rows j) m) (get_or ys (timed_before rows j) m)) (sym is) (subst (λ i. ForRow k (get_or ms i m) (get_or ys i m)) place here)
          | inr not ↦
              let below : q < k = omega arith in
              let earlier = timed_past rows q k below q-timed in
              subst (λ y. ForRow q (get_or ms (timed_before rows q) m) y) (sym (p.others (timed_before rows q) m (λ e. omega (arith, e, place)))) (r.there (omega (arith, enough, timed_more k timed)) q m below q-timed)
        ];
    past = λ i m le. p.others i m (λ e. omega (arith, e, place, timed_more k timed)) ∙ r.past i m (omega (arith, timed_more k timed));
  }

  readied_other : (k : ℕ) (xs : List X) → is_timed (row_at rows k) ≡ false → Readied meaning admitted rows k ms xs → Readied meaning admitted rows (k + 1) ms xs
  readied_other k xs off r = record {
    long = r.long;
    there = λ enough q m low q-timed.
        elim (cases_eq q k) [
          | inl is ↦ absurd (both_ways (is_timed (row_at rows k)) off (ap (λ i. is_timed (row_at rows i)) (sym is) ∙ q-timed))
          | inr not ↦ r.there (omega (arith, enough, timed_same k off)) q m (omega arith) q-timed
        ];
    past = λ i m le. r.past i m (omega (arith, timed_same k off));
  }

  -- one row of the chain
  pub readied_row : (k at : ℕ) (row : Row) (xs ys : List X) → row_at rows k ≡ row → at ≡ timed_before rows k
      → (is_timed row ≡ true → PreparedAt meaning admitted at (row_from row) (row_to row) xs ys) → (is_timed row ≡ false → ys ≡ xs)
      → Readied meaning admitted rows k ms xs → Readied meaning admitted rows (k + 1) ms ys
  readied_row k at row xs ys is place timed other r =
      elim (cases_Bool (is_timed row)) [
        | inl on ↦ readied_timed k at xs ys place (ap is_timed is ∙ on) r (subst (λ w. PreparedAt meaning admitted at (row_from w) (row_to w) xs ys) (sym is) (timed on))
        | inr off ↦ subst (λ zs. Readied meaning admitted rows (k + 1) ms zs) (sym (other off)) (readied_other k xs (ap is_timed is ∙ off) r)
      ]
