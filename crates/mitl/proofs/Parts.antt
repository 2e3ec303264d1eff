-- A tick split into q parts, with every bound multiplied by q, keeps its readings. Assumes nothing.
use Rattle.std.proofs.Common.{◌≡◌, ℕ, suc, ◌+◌, ◌-◌, ◌*◌, ◌/◌, ◌%◌, ◌<◌, ◌≤◌, ◌↔◌, List, [], ◌∷◌, length, get_or, replicate, sym, refl, ap, ◌∙◌, subst, inl, inr, le_trans, add-zero, mod-lt, mul-le-mul_left, mul-zero, le-div_iff_mul-le, mul-suc, div-mul-le_self, arith, length-append}
use native.Mathlib.Nat.{add-mul-div_left, mul-add-div, div-eq_of_lt, div-eq-sub-div, div-add-mod, mul-div_cancel_left}
use lib.ListN.{length-replicate}
use mathlib.Core.Logic.Iff
use Rattle.std.proofs.lemmas.List.{get_or_append_left, get_or-append_right, get_or-replicate}
use Rattle.std.proofs.lemmas.Bool.{cases_lt}
use Rattle.std.proofs.lemmas.Bool.Decides.{same_from_decides, Decides-like}
use Rattle.mitl.specs.Formulas.{Formula, input, neg, both, either, once, always, since, Sat, sat, bit, scaled, parts}
use Rattle.mitl.proofs.Tests.{decides_sat}
use Rattle.mitl.specs.Windows.{Window}

module _ (q : ℕ) (pos : 0 < q) where
  div_mono : {m n : ℕ} → m ≤ n → m / q ≤ n / q
  div_mono {m} {n} le = (le-div_iff_mul-le pos).1 (le_trans (div-mul-le_self m q) le)

  pub get_or-parts : (h : List ℕ) (k : ℕ) → get_or (parts q h) k 0 ≡ get_or h (k / q) 0
  get_or-parts [] k = refl
  get_or-parts (x ∷ xs) k = elim (cases_lt k q) [ inl lt ↦ inside lt | inr le ↦ beyond le (get_or-parts xs (k - q)) ]
    where
      inside : k < q → get_or (parts q (x ∷ xs)) k 0 ≡ get_or (x ∷ xs) (k / q) 0
      inside lt =
          let short : k < length (replicate q x) = omega (arith, length-replicate q x) in
          get_or_append_left (replicate q x) (parts q xs) 0 k short ∙ get_or-replicate q k x 0 lt ∙ ap (λ i. get_or (x ∷ xs) i 0) (sym (div-eq_of_lt lt))

      beyond : q ≤ k → get_or (parts q xs) (k - q) 0 ≡ get_or xs ((k - q) / q) 0 → get_or (parts q (x ∷ xs)) k 0 ≡ get_or (x ∷ xs) (k / q) 0
      beyond le same =
          let next : k / q ≡ suc ((k - q) / q) = omega (arith, div-eq-sub-div pos le) in
          get_or-append_right (replicate q x) (parts q xs) q k 0 (length-replicate q x) le ∙ same ∙ ap (λ i. get_or (x ∷ xs) i 0) (sym next)

  window_down : (a b k u : ℕ) → Window (q * a) (q * b) k u → Window a b (k / q) (u / q)
  window_down a b k u w =
      (rw (add-mul-div_left u b pos) at (div_mono w.0), rw (add-mul-div_left u a pos) at (div_mono w.1))

  -- the part of tick u at the same place as part k has in its own tick
  part_of : ℕ → ℕ → ℕ
  part_of k u = q * u + k % q

  tick_of_part : (k u : ℕ) → part_of k u / q ≡ u
  unfolding part_of
  tick_of_part k u = mul-add-div pos u (k % q) ∙ ap (λ z. u + z) (div-eq_of_lt (mod-lt k pos)) ∙ add-zero u

  window_up : (a b k u : ℕ) → Window a b (k / q) u → Window (q * a) (q * b) k (part_of k u)
  unfolding part_of
  window_up a b k u w =
      let whole = div-add-mod k q in
      let low = mul-le-mul_left q w.0 in
      let high = mul-le-mul_left q w.1 in
      (omega arith, omega arith)

  -- a tick between those of the parts u and k has a part between u and k
  part_between : (u k s : ℕ) → u ≤ k → u / q ≤ s → s ≤ k / q → (p : ℕ) × (u ≤ p) × (p ≤ k) × (p / q ≡ s)
  part_between u k s before low high =
      let under : q * s ≤ k = omega (arith, mul-le-mul_left q high, div-add-mod k q) in
      elim (cases_lt (u / q) s) [
        | inl lt ↦ (q * s, omega (arith, mul-le-mul_left q lt, div-add-mod u q, mod-lt u pos), under, mul-div_cancel_left s pos)
        | inr le ↦ (u, omega arith, before, omega arith)
      ]

  pub Sat-parts : (f : Formula) (h : List ℕ) (k : ℕ) → Sat (scaled q f) (parts q h) k ↔ Sat f h (k / q)
  Sat-parts (input i) h k =
      let same = ap (bit i) (get_or-parts h k) in
      (λ e. sym same ∙ e, λ e. same ∙ e)
  Sat-parts (neg f) h k = Iff.not (Sat-parts f h k)
  Sat-parts (both f g) h k = Iff.and (Sat-parts f h k) (Sat-parts g h k)
  Sat-parts (either f g) h k =
      let e = Sat-parts f h k in
      let d = Sat-parts g h k in
      (elim [ inl s ↦ inl (e.0 s) | inr s ↦ inr (d.0 s) ], elim [ inl s ↦ inl (e.1 s) | inr s ↦ inr (d.1 s) ])
  Sat-parts (once f a b) h k = (
    λ r. (r.0 / q, window_down a b k r.0 r.1, (Sat-parts f h r.0).0 r.2),
    λ r. (part_of k r.0, window_up a b k r.0 r.1, (Sat-parts f h (part_of k r.0)).1 (subst (Sat f h) (sym (tick_of_part k r.0)) r.2)),
  )
  Sat-parts (always f a b) h k = (
    λ r u w. subst (Sat f h) (tick_of_part k u) ((Sat-parts f h (part_of k u)).0 (r (part_of k u) (window_up a b k u w))),
    λ r u w. (Sat-parts f h u).1 (r (u / q) (window_down a b k u w)),
  )
  Sat-parts (since f g a b) h k =
      let at = Sat-parts f h in
      let at' = Sat-parts g h in (
        λ r. (
          r.0 / q,
          window_down a b k r.0 r.1,
          (at' r.0).0 r.2,
          λ s low high. let p = part_between r.0 k s (omega (arith, r.1)) low high in subst (Sat f h) p.3 ((at p.0).0 (r.3 p.0 p.1 p.2)),
        ),
        λ r. (
          part_of k r.0,
          window_up a b k r.0 r.1,
          (at' (part_of k r.0)).1 (subst (Sat g h) (sym (tick_of_part k r.0)) r.2),
          λ s low high. (at s).1 (r.3 (s / q) (rw (tick_of_part k r.0) at (div_mono low)) (div_mono high)),
        ),
      )

  pub sat_parts : (f : Formula) (h : List ℕ) (k : ℕ) → sat (scaled q f) (parts q h) k ≡ sat f h (k / q)
  sat_parts f h k =
      same_from_decides _ _ (Decides-like _ (Sat-parts f h k).0 (Sat-parts f h k).1 (decides_sat (scaled q f) (parts q h) k)) (decides_sat f h (k / q))

pub length_parts : (q : ℕ) (h : List ℕ) → length (parts q h) ≡ q * length h
length_parts q [] = sym (mul-zero q)
length_parts q (x ∷ xs) =
    length-append (replicate q x) (parts q xs) ∙ omega (arith, length-replicate q x, length_parts q xs, mul-suc q (length xs))
