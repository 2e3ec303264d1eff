-- The readings and the outlooks over a block of ticks with one word. Assumes nothing.
use Rattle.std.proofs.Common.{◌≡◌, ℕ, zero, suc, ◌+◌, ◌-◌, ◌<◌, ◌≤◌, Bool, true, false, cond, not, ◌&&◌, ◌||◌, List, ◌++◌, length, replicate, sym, refl, ap, ◌∙◌, subst, ap₂, inl, inr, not-suc-le-zero, arith, length-append}
use mathlib.Core.Path.{fun_ext}
use mathlib.Core.Bool.{false≢true, not-not}
use Rattle.std.proofs.lemmas.Bool.{cases_lt}
use lib.ListN.{length-replicate}
use Rattle.std.proofs.lemmas.List.{get_or-append-add, get_or-replicate}
use Rattle.mitl.specs.declared.Row.{Row}
use Rattle.mitl.specs.declared.Row.TheVariants.{Input, Not, And, Or, Once, Always, Since, Rule}
use Rattle.mitl.specs.Formulas.{Formula, since, sat, bit}
use Rattle.mitl.specs.Rows.{Earlier, is_timed, row_at, Chained, formula_at, formula_of, formulas, read}
use Rattle.mitl.specs.Outlook.{outlook, looked}
use Rattle.mitl.specs.Memory.{Meaning, took, cleared, taken, ahead}
use Rattle.mitl.specs.Blocks.{row_ahead, row_after, advanced, Proper, row_outlook, row_looked, Foreseen, Steady}
use Rattle.mitl.proofs.Outlook.{once_ahead, always_ahead, since_ahead, since_off, once_takes, always_takes, since_takes, since_clears}
use Rattle.mitl.proofs.Rows.{formulas_at}

module _ (fs : List Formula) (h : List ℕ) (n w : ℕ) (v : ℕ → Bool) (k : ℕ) where
  abbrev block : List ℕ
  block = replicate n w

  -- the rows before k keep the readings v, up to and with d ticks ahead
  abbrev HeldUntil : ℕ → Type 0
  HeldUntil d = (l : ℕ) → l < k → (u : ℕ) → length h ≤ u → u ≤ length h + d → sat (formula_at fs l) (h ++ block) u ≡ v l

  row_ahead_is : (r : Row) → Earlier k r → Proper r → (d : ℕ) → d < n → HeldUntil d → sat (formula_of fs r) (h ++ block) (length h + d) ≡ row_ahead r (outlook (formula_of fs r) h) v w d
  row_ahead_is (Input i) e p d lt steady = ap (bit i) (get_or-append-add h block d 0 ∙ get_or-replicate n d w 0 lt)
  row_ahead_is (Not l) e p d lt steady = ap not (steady l e (length h + d) (omega arith) (omega arith))
  row_ahead_is (And l r) e p d lt steady = ap₂ ◌&&◌ (steady l e.0 (length h + d) (omega arith) (omega arith)) (steady r e.1 (length h + d) (omega arith) (omega arith))
  row_ahead_is (Or l r) e p d lt steady = ap₂ ◌||◌ (steady l e.0 (length h + d) (omega arith) (omega arith)) (steady r e.1 (length h + d) (omega arith) (omega arith))
  row_ahead_is (Once l a b) e p d lt steady = once_ahead h block (formula_at fs l) a b (v l) (omega arith) d (steady l e)
  row_ahead_is (Always l a b) e p d lt steady =
      always_ahead h block (formula_at fs l) a b (not (v l)) (omega arith) d (λ u low high. steady l e u low high ∙ sym (not-not (v l)))
  row_ahead_is (Since l r a b) e p d lt steady = held (v l) (steady l e.0)
    where
      held : (x : Bool) → ((u : ℕ) → length h ≤ u → u ≤ length h + d → sat (formula_at fs l) (h ++ block) u ≡ x)
          → sat (since (formula_at fs l) (formula_at fs r) a b) (h ++ block) (length h + d) ≡ (x && ahead a (v r) (outlook (since (formula_at fs l) (formula_at fs r) a b) h) d)
      held true on = since_ahead h block (formula_at fs l) (formula_at fs r) a b (v r) (omega arith) d on (steady r e.1)
      held false off = since_off (formula_at fs l) (formula_at fs r) a b (h ++ block) (length h + d) (off (length h + d) (omega arith) (omega arith))
  row_ahead_is (Rule i l) e p d lt steady = steady l e (length h + d) (omega arith) (omega arith)

  -- the rows before k keep the readings v over the block
  abbrev Held : Type 0
  Held = (l : ℕ) → l < k → (u : ℕ) → length h ≤ u → u < length h + n → sat (formula_at fs l) (h ++ block) u ≡ v l

  row_after_is : (r : Row) → is_timed r ≡ true → Earlier k r → 0 < n → Held → (d : ℕ) → outlook (formula_of fs r) (h ++ block) d ≡ row_after r (outlook (formula_of fs r) h) v n d
  row_after_is (Once l a b) t e pos steady d =
      let size = length-replicate n w in
      let took = once_takes h block (formula_at fs l) a b (v l) (λ u new. steady l e u new.0 (omega arith)) d in
      rw length-replicate at took
  row_after_is (Always l a b) t e pos steady d =
      let size = length-replicate n w in
      let took = always_takes h block (formula_at fs l) a b (not (v l)) (λ u new. steady l e u new.0 (omega arith) ∙ sym (not-not (v l))) d in
      rw length-replicate at took
  row_after_is (Since l r a b) t e pos steady d = held (v l) (steady l e.0)
    where
      size : length block ≡ n
      size = length-replicate n w

      held : (x : Bool) → ((u : ℕ) → length h ≤ u → u < length h + n → sat (formula_at fs l) (h ++ block) u ≡ x)
          → outlook (since (formula_at fs l) (formula_at fs r) a b) (h ++ block) d ≡ (x && taken a b (v r) n (outlook (since (formula_at fs l) (formula_at fs r) a b) h) d)
      held true on =
          rw length-replicate
          at (since_takes h block (formula_at fs l) (formula_at fs r) a b (v r) (λ u new. on u new.0 (omega (arith, size))) (λ u new. steady r e.1 u new.0 (omega (arith, size))) d)
      held false off =
          since_clears (formula_at fs l) (formula_at fs r) a b (h ++ block) (length h + n - 1) (omega (arith, length-append h block, size)) (off (length h + n - 1) (omega arith) (omega arith)) d
  row_after_is r t e pos steady d = absurd (false≢true t)

module _ (rows : List Row) (chained : Chained rows) (h : List ℕ) (n w : ℕ) (v : ℕ → Bool) (k : ℕ) (within : k < length rows) where
  pub read_ahead : Proper (row_at rows k) → (d : ℕ) → d < n
      → ((l : ℕ) → l < k → (u : ℕ) → length h ≤ u → u ≤ length h + d → read rows (h ++ replicate n w) l u ≡ v l)
      → read rows (h ++ replicate n w) k (length h + d) ≡ row_ahead (row_at rows k) (outlook (formula_at (formulas rows) k) h) v w d
  read_ahead proper d lt steady =
      subst (λ f. sat f (h ++ replicate n w) (length h + d) ≡ row_ahead (row_at rows k) (outlook f h) v w d) (sym (formulas_at rows chained k within))
      (row_ahead_is (formulas rows) h n w v k (row_at rows k) (chained k within) proper d lt steady)

  pub outlook_after : is_timed (row_at rows k) ≡ true → 0 < n
      → Steady rows h n w v k → (d : ℕ) → row_outlook rows k (h ++ replicate n w) d ≡ row_after (row_at rows k) (row_outlook rows k h) v n d
  outlook_after timed pos steady d =
      subst (λ f. outlook f (h ++ replicate n w) d ≡ row_after (row_at rows k) (outlook f h) v n d) (sym (formulas_at rows chained k within))
      (row_after_is (formulas rows) h n w v k (row_at rows k) timed (chained k within) pos steady d)

-- Values that every row keeps ahead, as its memory has it, are the readings over the block.
module _ (rows : List Row) (chained : Chained rows) (proper : (k : ℕ) → k < length rows → Proper (row_at rows k)) (h : List ℕ) (n w : ℕ) (v : ℕ → Bool)
    (keeps : Foreseen rows h n w v) where
  steady_below : (j : ℕ) → j ≤ length rows → Steady rows h n w v j
  steady_below zero le k lt u low high = absurd (not-suc-le-zero lt)
  steady_below (suc j) le k lt u low high =
      let before = steady_below j (omega arith) in
      elim (cases_lt k j) [
        | inl less ↦ before k less u low high
        | inr more ↦
            (let within : k < length rows = omega arith in
            let at : length h + (u - length h) ≡ u = omega arith in
            subst (λ s. read rows (h ++ replicate n w) k s ≡ v k) at
            (read_ahead rows chained h n w v k within (proper k within) (u - length h) (omega arith) (λ l l<k s low' high'. before l (omega arith) s low' (omega arith))
            ∙ keeps k within (u - length h) (omega arith)))
      ]

  pub block_readings : Steady rows h n w v (length rows)
  block_readings = steady_below (length rows) (omega arith)

-- a path between meanings, from the windows and the marks
pub meaning_path : (a b a' b' : ℕ) (f g : ℕ → Bool) → a ≡ a' → b ≡ b' → ((d : ℕ) → f d ≡ g d)
    → ◌≡◌ {A = Meaning} (record { a = a; b = b; mark = f }) (record { a = a'; b = b'; mark = g })
meaning_path a b a' b' f g p q e = λ i. record { a = p i; b = q i; mark = fun_ext e i }

module _ (rows : List Row) (chained : Chained rows) (h : List ℕ) (n w : ℕ) (v : ℕ → Bool) (k : ℕ) (within : k < length rows) where
  -- what the memory of a timed row means after the block
  pub looked_after : is_timed (row_at rows k) ≡ true → 0 < n
      → Steady rows h n w v k → row_looked rows k (h ++ replicate n w) ≡ advanced (row_at rows k) v n (row_looked rows k h)
  looked_after timed pos steady =
      subst (λ f. looked f (h ++ replicate n w) ≡ advanced (row_at rows k) v n (looked f h)) (sym (formulas_at rows chained k within))
      (go (row_at rows k) timed
      (λ d. subst (λ f. outlook f (h ++ replicate n w) d ≡ row_after (row_at rows k) (outlook f h) v n d) (formulas_at rows chained k within)
      (outlook_after rows chained h n w v k within timed pos steady d)))
    where
      go : (r : Row) → is_timed r ≡ true → ((d : ℕ) → outlook (formula_of (formulas rows) r) (h ++ replicate n w) d ≡ row_after r (outlook (formula_of (formulas rows) r) h) v n d)
          → looked (formula_of (formulas rows) r) (h ++ replicate n w) ≡ advanced r v n (looked (formula_of (formulas rows) r) h)
      go (Once l a b) t e = meaning_path a b a b _ _ refl refl e
      go (Always l a b) t e = meaning_path a b a b _ _ refl refl e
      go (Since l r a b) t e = held (v l) e
        where
          held : (x : Bool) → ((d : ℕ) → outlook (since (formula_at (formulas rows) l) (formula_at (formulas rows) r) a b) (h ++ replicate n w) d
              ≡ (x && taken a b (v r) n (outlook (since (formula_at (formulas rows) l) (formula_at (formulas rows) r) a b) h) d))
              → looked (since (formula_at (formulas rows) l) (formula_at (formulas rows) r) a b) (h ++ replicate n w)
              ≡ cond x (took (v r) n (looked (since (formula_at (formulas rows) l) (formula_at (formulas rows) r) a b) h)) (cleared (looked (since (formula_at (formulas rows) l) (formula_at (formulas rows) r) a b) h))
          held true e' = meaning_path a b a b _ _ refl refl e'
          held false e' = meaning_path a b a b _ _ refl refl e'
      go r t e = absurd (false≢true t)
