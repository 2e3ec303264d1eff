-- Ticks during which no reading changes. Assumes nothing.
use Rattle.std.proofs.Common.{◌≡◌, ℕ, ◌+◌, ◌<◌, ◌≤◌, Bool, true, false, not, ◌&&◌, eqb, List, ◌++◌, length, replicate, sym, refl, ap, ◌∙◌, subst, ap₂, arith}
use Rattle.std.proofs.lemmas.List.{replicate-append-replicate}
use Rattle.std.proofs.lemmas.Bool.{eqb-true, eqb-false}
use Rattle.mitl.specs.declared.Row.{Row}
use Rattle.mitl.specs.declared.Row.TheVariants.{Input, Not, And, Or, Once, Always, Since, Rule}
use Rattle.mitl.specs.Formulas.{Formula}
use Rattle.mitl.specs.Memory.{Meaning, ahead}
use Rattle.mitl.specs.Outlook.{outlook, looked}
use Rattle.mitl.specs.Rows.{Chained, row_at, is_timed, timed_before, formula_at, formula_of, formulas, read, verdict}
use Rattle.mitl.specs.Blocks.{row_ahead, advanced, Proper}
use Rattle.mitl.proofs.Blocks.{block_readings, looked_after}
use Rattle.mitl.proofs.Rows.{formulas_at}
use Rattle.engine.specs.declared.reading.Step.{Step}
use Rattle.engine.specs.Means.{Means}
use Rattle.engine.specs.Steps.{meant, reading, seen, Before, Foresees, Advanced}
use Rattle.engine.specs.Held.{Held, Whole, coming_first}
use Rattle.engine.proofs.Meant.{meant_by}
use Rattle.engine.proofs.Plans.{timed_past}
use Rattle.engine.proofs.Verdicts.{verdict_is, coming_alike, coming_more, longer}

-- a memory that means its row's outlook shows the row as the history does
seen_ahead : (fs : List Formula) (h : List ℕ) (w : ℕ) (v : ℕ → Bool) (m : Meaning) (d : ℕ) (r : Row) → (is_timed r ≡ true → m ≡ looked (formula_of fs r) h) → seen r m v w d ≡ row_ahead r (outlook (formula_of fs r) h) v w d
seen_ahead fs h w v m d (Input i) is = refl
seen_ahead fs h w v m d (Not l) is = refl
seen_ahead fs h w v m d (And l r) is = refl
seen_ahead fs h w v m d (Or l r) is = refl
seen_ahead fs h w v m d (Once l a b) is = ap (λ (x : Meaning). ahead x.a (v l) x.mark d) (is refl)
seen_ahead fs h w v m d (Always l a b) is = ap (λ (x : Meaning). not (ahead x.a (not (v l)) x.mark d)) (is refl)
seen_ahead fs h w v m d (Since l r a b) is = ap (λ (x : Meaning). v l && ahead x.a (v r) x.mark d) (is refl)
seen_ahead fs h w v m d (Rule i l) is = refl

module _ {X : Type 0} (meaning : X → Meaning) (rows : List Row) (chained : Chained rows) (proper : (k : ℕ) → k < length rows → Proper (row_at rows k)) (w : ℕ) where
  module _ (xs : List X) (s : Step) (f : Foresees meaning rows w xs s) (h : List ℕ) (means : Means meaning rows xs h) where
    row_means : (k : ℕ) → k < length rows → is_timed (row_at rows k) ≡ true → meant meaning xs (timed_before rows k) ≡ looked (formula_of (formulas rows) (row_at rows k)) h
    row_means k lt timed =
        meant_by meaning (λ m. m ≡ looked (formula_of (formulas rows) (row_at rows k)) h) xs (timed_before rows k) (omega (arith, timed_past rows k (length rows) lt timed, means.enough))
        (λ m. means.outlooks k m lt timed ∙ ap (λ g. looked g h) (formulas_at rows chained k lt))

    keeps_ahead : (n : ℕ) → ((d : ℕ) → d < n → Before d s.lasts) → (k : ℕ) → k < length rows → (d : ℕ) → d < n
        → row_ahead (row_at rows k) (outlook (formula_at (formulas rows) k) h) (reading s.readings) w d ≡ reading s.readings k
    keeps_ahead n within k lt d low =
        ap (λ g. row_ahead (row_at rows k) (outlook g h) (reading s.readings) w d) (formulas_at rows chained k lt)
        ∙ sym (seen_ahead (formulas rows) h w (reading s.readings) _ d (row_at rows k) (row_means k lt))
        ∙ f.keeps k lt d (within d low)

    pub foreseen_readings : (n : ℕ) → ((d : ℕ) → d < n → Before d s.lasts) → (k : ℕ) → k < length rows → (u : ℕ) → length h ≤ u → u < length h + n → read rows (h ++ replicate n w) k u ≡ reading s.readings k
    foreseen_readings n within = block_readings rows chained proper h n w (reading s.readings) (keeps_ahead n within)

    pub foreseen_verdict : (n : ℕ) → ((d : ℕ) → d < n → Before d s.lasts) → (u : ℕ) → length h ≤ u → u < length h + n → verdict rows (h ++ replicate n w) u ≡ s.word
    foreseen_verdict n within u low high =
        verdict_is rows (h ++ replicate n w) u s.word (reading s.readings) f.small f.bits (λ k lt. foreseen_readings n within k lt u low high)

    pub foreseen_first : coming_first rows h w ≡ s.word
    foreseen_first =
        foreseen_verdict 1 (λ d low. let e : 0 ≡ d = omega arith in subst (λ x. Before x s.lasts) e f.some) (length h) (omega arith) (omega arith)

  module _ (xs ys : List X) (s : Step) (n : ℕ) where
    pub held_step : Foresees meaning rows w xs s → 0 < n → ((d : ℕ) → d < n → Before d s.lasts)
        → length ys ≡ length xs → Advanced meaning rows (reading s.readings) n (length rows) xs ys → Held meaning rows w xs ys s.word n
    held_step f pos within long a = record {
      past = a.past;
      over = λ h means. record {
        means = record {
          enough = omega (arith, means.enough);
          outlooks = λ p m lt timed.
              a.there p m lt timed
              ∙ ap (advanced (row_at rows p) (reading s.readings) n) (means.outlooks p m lt timed)
              ∙ sym (looked_after rows chained h n w (reading s.readings) p lt timed pos (λ l less u low high. foreseen_readings xs s f h means n within l (omega arith) u low high));
        };
        alike = coming_alike rows h w n s.word (foreseen_verdict xs s f h means n within);
      };
    }

module _ {X : Type 0} (meaning : X → Meaning) (rows : List Row) (w z : ℕ) where
  pub held_more : (xs ys zs : List X) (n m x : ℕ) → Held meaning rows w xs ys z n → x ≡ z → Held meaning rows w ys zs x m → Held meaning rows w xs zs z (n + m)
  held_more xs ys zs n m x a is b = record {
    past = λ i y le. b.past i y le ∙ a.past i y le;
    over = λ h means.
        let first = a.over h means in
        let second = b.over (h ++ replicate n w) first.means in
        record {
          means = subst (Means meaning rows zs) (longer rows h w n m) second.means;
          alike = coming_more rows h w n m ∙ ap₂ ◌++◌ first.alike (second.alike ∙ ap (replicate m) is) ∙ replicate-append-replicate n m z;
        };
  }

pub same_word : (x z : ℕ) → true ≡ eqb x z → x ≡ z
same_word x z e = eqb-true x z (sym e)

-- n ticks under the verdict word z, and m more under x, which is z
module _ {X : Type 0} (meaning : X → Meaning) (rows : List Row) (w most : ℕ) (xs ys zs : List X) (z n x m : ℕ)
    (a : Held meaning rows w xs ys z n) (same : x ≡ z) (b : Held meaning rows w ys zs x m) (pos : 0 < m) (le : n + m ≤ most) where
  -- no tick is left
  pub whole_all : most ≤ n + m → Whole meaning rows w most xs zs z (n + m)
  whole_all all = record { some = omega arith; within = le; held = held_more meaning rows w z xs ys zs n m x a same b; ends = λ h means lt is. absurd (omega arith) }

  -- another verdict word is next
  pub whole_ended : Chained rows → ((k : ℕ) → k < length rows → Proper (row_at rows k)) → (s : Step)
      → Foresees meaning rows w zs s → false ≡ eqb s.word z → Whole meaning rows w most xs zs z (n + m)
  whole_ended chained proper s f other =
      let held = held_more meaning rows w z xs ys zs n m x a same b in
      record {
        some = omega arith;
        within = le;
        held = held;
        ends = λ h means lt is.
            eqb-false s.word z (sym other) (sym (foreseen_first meaning rows chained proper w zs s f (h ++ replicate (n + m) w) (held.over h means).means) ∙ is);
      }
