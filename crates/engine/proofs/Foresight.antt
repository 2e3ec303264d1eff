-- The readings ahead, one row after another. Assumes nothing.
use Rattle.std.proofs.Common.{◌≡◌, ℕ, ◌+◌, ◌<◌, ◌≤◌, Bool, false, not, ◌&&◌, ◌||◌, List, length, set, Option, sym, refl, ap, ◌∙◌, subst, ap₂, add-one, arith, below_more}
use Rattle.std.proofs.lemmas.List.{get_or-set_same, get_or-set_other}
use Rattle.mitl.specs.declared.Row.{Row}
use Rattle.mitl.specs.declared.Row.TheVariants.{Input, Not, And, Or, Once, Always, Since, Rule}
use Rattle.mitl.specs.Formulas.{bit}
use Rattle.mitl.specs.Memory.{Meaning, ahead, Lasts}
use Rattle.mitl.specs.Rows.{Earlier, row_at, timed_before, is_rule}
use Rattle.mitl.specs.Windows.{some_below}
use Rattle.plan.proofs.Below.{some_same}
use Rattle.engine.specs.Steps.{meant, reading, seen, Before, AtEnd, Turns, shorter, Foreseen}
use Rattle.engine.proofs.Lengths.{lasts_before, lasts_some, before_shorter, shorter_before, end_lasts, end_shorter, end_map}

-- a row looks only at the readings of earlier rows
seen_same : (k : ℕ) (u v : ℕ → Bool) (w : ℕ) (m : Meaning) (d : ℕ) → ((j : ℕ) → j < k → u j ≡ v j) → (r : Row) → Earlier k r → seen r m u w d ≡ seen r m v w d
seen_same k u v w m d same (Input i) e = refl
seen_same k u v w m d same (Not l) e = ap not (same l e)
seen_same k u v w m d same (And l r) e = ap₂ ◌&&◌ (same l e.0) (same r e.1)
seen_same k u v w m d same (Or l r) e = ap₂ ◌||◌ (same l e.0) (same r e.1)
seen_same k u v w m d same (Once l a b) e = ap (λ x. ahead m.a x m.mark d) (same l e)
seen_same k u v w m d same (Always l a b) e = ap (λ x. not (ahead m.a (not x) m.mark d)) (same l e)
seen_same k u v w m d same (Since l r a b) e = ap₂ (λ x y. x && ahead m.a y m.mark d) (same l e.0) (same r e.1)
seen_same k u v w m d same (Rule i l) e = same l e

module _ {X : Type 0} (meaning : X → Meaning) (rows : List Row) (w : ℕ) (ms : List X) (k : ℕ) (vs : List Bool) (verdict : ℕ) (lasts : Option ℕ) (v : Bool) (n : Option ℕ) (verdict' : ℕ) (lasts' : Option ℕ) where
  -- the row at place k has the reading v for the length n
  pub foreseen_more : ((j : ℕ) → j < k + 1 → Earlier j (row_at rows j)) → k < length vs → Foreseen meaning rows w ms k vs verdict lasts
      → (row : Row) (at : ℕ) → row_at rows k ≡ row → at ≡ timed_before rows k
      → Lasts (seen row (meant meaning ms at) (reading vs) w) v n
      → ((i : ℕ) → bit i verdict' ≡ ((is_rule i row && v) || bit i verdict))
      → lasts' ≡ shorter n lasts → verdict' < 65536
      → Foreseen meaning rows w ms (k + 1) (set vs k v) verdict' lasts'
  foreseen_more chained room f row at is place l with_it least fits = record {
    small = fits;
    change = subst (AtEnd _) (sym least) (end_shorter _ n lasts (end_lasts _ v n l (λ d e. (k, omega arith, same_seen k (omega arith) d (omega arith) ∙ ap₂ (λ r i. seen r (meant meaning ms i) (reading vs) w d) is (sym place) ∙ e ∙ ap not (sym here)))) (end_map (Turns meaning rows w ms k vs) _ lasts (λ d c. (c.0, omega (arith, c.1), same_seen c.0 (omega (arith, c.1)) d (omega (arith, c.1)) ∙ c.2 ∙ ap not (sym (kept c.0 c.1)))) f.change));
    keeps = λ j lt d b.
        let parts = before_shorter d n lasts (subst (Before d) least b) in
        below_more (λ j. seen (row_at rows j) (meant meaning ms (timed_before rows j)) (reading (set vs k v)) w d ≡ reading (set vs k v) j) k
        (λ j low. same_seen j (omega arith) d (omega arith) ∙ f.keeps j low d parts.1 ∙ sym (kept j low))
        (same_seen k (omega arith) d (omega arith) ∙ ap₂ (λ r i. seen r (meant meaning ms i) (reading vs) w d) is (sym place) ∙ lasts_before _ v n l d parts.0 ∙ sym here)
        j lt;
    some = subst (Before 0) (sym least) (shorter_before 0 n lasts (lasts_some _ v n l) f.some);
    bits = λ i.
        with_it i
        ∙ ap₂ ◌||◌ (ap₂ (λ r b. is_rule i r && b) (sym is) (sym here)) (f.bits i ∙ some_same _ _ k (λ j low. ap (λ b. is_rule i (row_at rows j) && b) (sym (kept j low))))
        ∙ ap (some_below (λ j. is_rule i (row_at rows j) && reading (set vs k v) j)) (sym (add-one k));
  }
    where
      here : reading (set vs k v) k ≡ v
      here = get_or-set_same vs k v false room

      kept : (j : ℕ) → j < k → reading (set vs k v) j ≡ reading vs j
      kept j low = get_or-set_other vs k j v false (omega arith)

      same_seen : (j : ℕ) → j < k + 1 → (d : ℕ) → j ≤ k
          → seen (row_at rows j) (meant meaning ms (timed_before rows j)) (reading (set vs k v)) w d ≡ seen (row_at rows j) (meant meaning ms (timed_before rows j)) (reading vs) w d
      same_seen j lt d le = seen_same j _ _ w _ d (λ i low. kept i (omega arith)) (row_at rows j) (chained j lt)
