-- Sound content after ticks are taken is sound again. Assumes nothing.
use Rattle.std.proofs.Common.{◌≡◌, ℕ, zero, suc, ◌+◌, ◌-◌, ◌<◌, ◌≤◌, true, false, ltb, leb, ◌&&◌, List, [], ◌∷◌, ◌++◌, length, get_or, take, drop, replicate, sym, refl, ap, ◌∙◌, inl, inr, arith}
use Rattle.std.proofs.lemmas.Bool.{and_parts, leb-true, ltb-true, and_cases, leb-false, ltb-false}
use Rattle.clock_pairs.specs.declared.Episode.{Episode}
use Rattle.clock_pairs.specs.declared.ClockPairs.{ClockPairs}
use Rattle.clock_pairs.specs.Episodes.{episode, lasting, served, vacant}
use Rattle.clock_pairs.specs.Meanings.{goes_on, held, sound}
use Rattle.clock_pairs.proofs.Order.{Apart, apart_lasting}
use Rattle.clock_pairs.proofs.Hold.{Holds, holds, newest, served_parts, sound_parts, vacant_after}

-- every episode n ticks on
pub all_grown : (m then : ClockPairs) (n : ℕ) → sound m ≡ true → then.a ≡ m.a → then.b ≡ m.b → then.len ≡ length (lasting m.b n (held m))
    → then.episodes ≡ lasting m.b n (held m) ++ (replicate (m.len - then.len) (episode 0 0) ++ drop m.len m.episodes) → Holds then m.a m.b (lasting m.b n (held m))
all_grown m then n is ea eb size stand =
    let s = sound_parts m is in
    holds then m.a m.b (lasting m.b n (held m)) (replicate (m.len - then.len) (episode 0 0) ++ drop m.len m.episodes) ea eb size stand
    (vacant_after (m.len - then.len) (drop m.len m.episodes) ∙ s.rest) s.window
    (apart_lasting m.a m.b (served_parts m.a m.b s.window).upto n 0 0 (held m) (omega arith) s.gaps)

rest_vacant : (k : ℕ) (xs : List Episode) → vacant (drop k xs) ≡ true → vacant (drop (suc k) xs) ≡ true
rest_vacant k [] none = refl
rest_vacant zero (x ∷ xs) none = (and_parts _ _ none).1
rest_vacant (suc k) (x ∷ xs) none = rest_vacant k xs none

-- an episode in front of the others
pub with_first : (then last : ClockPairs) (a b : ℕ) (e : Episode) (es : List Episode) → Holds then a b es → served a b ≡ true → Apart a b 0 (e ∷ es)
    → last.a ≡ a → last.b ≡ b → last.len ≡ then.len + 1 → then.len ≡ length es → last.episodes ≡ (e ∷ held then) ++ drop (then.len + 1) then.episodes → Holds last a b (e ∷ es)
with_first then last a b e es h w g ea eb more size stand =
    let one : then.len + 1 ≡ suc then.len = omega arith in
    holds last a b (e ∷ es) (drop (then.len + 1) then.episodes) ea eb (omega arith) (stand ∙ ap (λ xs. (e ∷ xs) ++ drop (then.len + 1) then.episodes) h.has)
    (ap (λ k. vacant (drop k then.episodes)) one ∙ rest_vacant then.len then.episodes (sound_parts then h.is_sound).rest) w g

-- where a yes goes on with the newest episode
pub near : (m : ClockPairs) → goes_on m ≡ true → (0 < m.len) × ((newest m).fall ≤ m.b - m.a)
near m e = let p = and_parts (ltb 0 m.len) (leb (newest m).fall (m.b - m.a)) e in (ltb-true _ _ p.0, leb-true _ _ p.1)

-- where it does not, every gap is long enough
pub far : (m : ClockPairs) → false ≡ goes_on m → Apart m.a m.b 0 (held m) → Apart m.a m.b (m.b - m.a + 1) (held m)
far m e g = long m.len m.episodes e g
  where
    long : (k : ℕ) (xs : List Episode) → false ≡ (ltb 0 k && leb (get_or xs 0 (episode 0 0)).fall (m.b - m.a)) → Apart m.a m.b 0 (take k xs) → Apart m.a m.b (m.b - m.a + 1) (take k xs)
    long zero xs e g = tt
    long (suc k) [] e g = tt
    long (suc k) (x ∷ xs) e g =
        elim (and_cases (ltb 0 (suc k)) (leb x.fall (m.b - m.a)) (sym e)) [
          | inl none ↦ absurd (omega (arith, ltb-false _ _ none))
          | inr late ↦ (omega (arith, leb-false _ _ late), g.1, g.2, g.3)
        ]
