-- The busiest rule, rule by rule. Assumes nothing.
use Rattle.std.proofs.Common.{◌≡◌, ℕ, zero, suc, ◌+◌, ◌<◌, ◌≤◌, cond, ltb, List, fold, sym, refl, ap, ◌∙◌, ap₂, subst, ⊎_elim, arith, below_more}
use Rattle.std.specs.List.{range_with_len}
use Rattle.std.proofs.lemmas.Bool.{cases_lt, cond-true, cond-false, lt-ltb, le-ltb}
use Rattle.record.specs.declared.Car.{Car}
use Rattle.record.specs.declared.Note.{Note}
use Rattle.share.specs.declared.BusiestRule.{BusiestRule}
use Rattle.share.specs.Ticks.{figure}
use Rattle.share.specs.Replies.{Busiest, Busier}

module _ (ns : List Note) (c : Car) where
  abbrev Has : ℕ → BusiestRule → Type 0
  Has i b = (b.rule ≡ i) × (b.per_mille ≡ figure ns c i)

  abbrev its : ℕ → BusiestRule
  its i = record { rule = i; per_mille = figure ns c i }

  -- rule i, if its figure is greater
  abbrev pub busier : BusiestRule → ℕ → BusiestRule
  busier a i = cond (ltb a.per_mille (figure ns c i)) (its i) a

  above : (a : BusiestRule) (i : ℕ) → a.per_mille < figure ns c i → busier a i ≡ its i
  above a i lt = cond-true _ _ _ (lt-ltb _ _ lt)

  within : (a : BusiestRule) (i : ℕ) → figure ns c i ≤ a.per_mille → busier a i ≡ a
  within a i le = cond-false _ _ _ (le-ltb _ _ le)

  pub busier_is : (a b r : BusiestRule) (i : ℕ) → Has i b → Busier a b r → r ≡ busier a i
  busier_is a b r i h o =
      ⊎_elim (λ lt. o.second (omega arith) ∙ ap₂ (λ x y. record { rule = x; per_mille = y }) h.0 h.1 ∙ sym (above a i lt))
      (λ le. o.first (omega arith) ∙ sym (within a i le))
      (cases_lt a.per_mille (figure ns c i))

  pub busiest_one : (b : BusiestRule) → Has 0 b → Busiest ns c 1 b
  busiest_one b h = record {
    known = omega arith;
    figure_is = h.1 ∙ ap (figure ns c) (sym h.0);
    greatest = λ i l. let z : i ≡ 0 = omega arith in omega (arith, ap (figure ns c) z, h.1);
    lowest = λ i l. absurd (omega arith);
  }

  keeps : (n : ℕ) (a : BusiestRule) → Busiest ns c n a → figure ns c n ≤ a.per_mille → Busiest ns c (n + 1) a
  keeps n a h le = record {
    known = omega arith;
    figure_is = h.figure_is;
    greatest = below_more _ _ h.greatest (omega arith);
    lowest = h.lowest;
  }

  takes : (n : ℕ) (a : BusiestRule) → Busiest ns c n a → a.per_mille < figure ns c n → Busiest ns c (n + 1) (its n)
  takes n a h lt = record {
    known = omega arith;
    figure_is = refl;
    greatest = below_more _ _ (λ i l. omega (arith, h.greatest i l)) (omega arith);
    lowest = λ i l. omega (arith, h.greatest i l);
  }

  busiest_more : (n : ℕ) (a : BusiestRule) → Busiest ns c n a → Busiest ns c (n + 1) (busier a n)
  busiest_more n a h =
      ⊎_elim (λ lt. subst (Busiest ns c (n + 1)) (sym (above a n lt)) (takes n a h lt))
      (λ le. subst (Busiest ns c (n + 1)) (sym (within a n le)) (keeps n a h le))
      (cases_lt a.per_mille (figure ns c n))

  pub busiest_all : (n k : ℕ) (b : BusiestRule) → Busiest ns c n b → Busiest ns c (n + k) (fold busier b (range_with_len n k))
  busiest_all n zero b h = subst (λ m. Busiest ns c m b) (omega arith) h
  busiest_all n (suc k) b h = subst (λ m. Busiest ns c m (fold busier (busier b n) (range_with_len (n + 1) k))) (omega arith) (busiest_all (n + 1) k (busier b n) (busiest_more n b h))
