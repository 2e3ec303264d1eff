-- Episodes with gaps longer than b - a: how few they are, and that they stay so. Assumes nothing.
use Rattle.std.proofs.Common.{◌≡◌, ℕ, suc, ◌+◌, ◌-◌, ◌*◌, ◌/◌, ◌<◌, ◌≤◌, min, Bool, true, false, cond, ltb, leb, List, [], ◌∷◌, length, Decides, refl, mul_comm, mul-zero, le-div_iff_mul-le, mul-suc, arith}
use Rattle.std.proofs.lemmas.Bool.{leb-true, le-leb, ltb-true}
use Rattle.std.proofs.lemmas.Bool.Decides.{Decides-and, Decides-like, Decides-ltb}
use Rattle.mitl.specs.Memory.{most_stretches_lem}
use Rattle.clock_pairs.specs.declared.Episode.{Episode}
use Rattle.clock_pairs.specs.Episodes.{episode, apart, older, lasting}

-- what `apart` tests
abbrev pub Apart : ℕ → ℕ → ℕ → List Episode → Type 0
Apart a b low [] = Unit {0}
Apart a b low (e ∷ es) = (low ≤ e.fall) × (e.fall < e.rise) × (e.rise ≤ b) × Apart a b (e.rise + (b - a) + 1) es

decides_leb : (m n : ℕ) → Decides (leb m n) (m ≤ n)
decides_leb m n = (leb-true m n, le-leb m n)

pub decides_apart : (a b low : ℕ) (es : List Episode) → Decides (apart a b low es) (Apart a b low es)
decides_apart a b low [] = (λ _. tt, λ _. refl)
decides_apart a b low (e ∷ es) =
    Decides-like _ (λ r. (r.0, r.1.0, r.1.1.0, r.1.1.1)) (λ r. (r.0, (r.1, (r.2, r.3))))
    (Decides-and _ _ (decides_leb low e.fall)
    (Decides-and _ _ (Decides-ltb e.fall e.rise)
    (Decides-and _ _ (decides_leb e.rise b) (decides_apart a b (e.rise + (b - a) + 1) es))))

pub gaps_of : (a b low : ℕ) (es : List Episode) → apart a b low es ≡ true → Apart a b low es
gaps_of a b low es = (decides_apart a b low es).0

module _ (a b : ℕ) where
  -- each episode takes b - a + 2 ticks at least
  width : (low : ℕ) (e : Episode) (es : List Episode) → Apart a b low (e ∷ es) → low + (b - a + 2) * length es < b
  width low e [] p = rw (mul-zero) (omega (arith, p.0, p.1, p.2))
  width low e (f ∷ es) p =
      let more = width (e.rise + (b - a) + 1) f es p.3 in
      let step : (b - a + 2) * suc (length es) ≡ (b - a + 2) * length es + (b - a + 2) = mul-suc (b - a + 2) (length es) in
      omega (arith, p.0, p.1)

  -- so that there are never more than the window's outlooks can have stretches
  pub few : (low : ℕ) (es : List Episode) → Apart a b low es → length es ≤ most_stretches_lem a b
  few low [] p = omega arith
  few low (e ∷ es) p =
      let wide = width low e es p in
      let fits : length es ≤ (b - 1) / (b - a + 2) = (le-div_iff_mul-le {k = b - a + 2} (omega arith)).1 (rw mul_comm (omega arith)) in
      omega arith

  module _ (upto : a ≤ b) (n : ℕ) where
    -- n ticks on they are apart still
    pub apart_lasting : (low high : ℕ) (es : List Episode) → high ≤ low + n → Apart a b low es → Apart a b high (lasting b n es)
    apart_lasting low high [] le p = tt
    apart_lasting low high (e ∷ es) le p = step (ltb (e.fall + n) b) refl (λ top le. apart_lasting (e.rise + (b - a) + 1) top es le p.3)
      where
        step : (t : Bool) → ltb (e.fall + n) b ≡ t → ((top : ℕ) → top ≤ e.rise + (b - a) + 1 + n → Apart a b top (lasting b n es)) → Apart a b high (cond t (older b n e ∷ lasting b n es) (lasting b n es))
        step true h rest =
            let young = ltb-true _ _ h in
            (omega (arith, p.0), omega (arith, p.1), omega arith, rest (min b (e.rise + n) + (b - a) + 1) (omega arith))
        step false h rest = rest high (omega (arith, p.0, p.1))

    -- a first yes, where the newest episode fell too long ago
    pub apart_new : 0 < b → 0 < n → (es : List Episode) → Apart a b (b - a + 1) es → Apart a b 0 (episode (min b n) 0 ∷ lasting b n es)
    apart_new some pos es p = (omega arith, omega arith, omega arith, apart_lasting (b - a + 1) (min b n + (b - a) + 1) es (omega arith) p)

    -- a yes that goes on with the newest episode
    pub apart_on : (e : Episode) (es : List Episode) → Apart a b 0 (e ∷ es) → Apart a b 0 (episode (min b (e.rise + n)) 0 ∷ lasting b n es)
    apart_on e es p = (omega arith, omega (arith, p.1), omega arith, apart_lasting (e.rise + (b - a) + 1) (min b (e.rise + n) + (b - a) + 1) es (omega arith) p.3)
