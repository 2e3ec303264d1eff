-- Content and the episodes that it holds. Assumes nothing.
use Rattle.std.proofs.Common.{◌≡◌, ℕ, zero, suc, ◌+◌, ◌<◌, ◌≤◌, true, ◌&&◌, ltb, leb, List, [], ◌∷◌, ◌++◌, length, get_or, take, drop, replicate, refl, ap, ◌∙◌, ap₂, arith}
use Rattle.std.proofs.lemmas.Bool.{cond-true, and_from, and_parts, le-leb, leb-true, ltb-true}
use Rattle.std.proofs.lemmas.List.{drop_all, drop_at, drop_more, get_or-take, length-take, length-take-le, take_at}
use Rattle.mitl.specs.Memory.{new_memory, most_stretches_lem}
use Rattle.mitl.specs.Windows.{sound_window}
use Rattle.clock_pairs.specs.declared.Episode.{Episode}
use Rattle.clock_pairs.specs.declared.ClockPairs.{ClockPairs}
use Rattle.clock_pairs.specs.Episodes.{served, episode, apart, vacant}
use Rattle.clock_pairs.specs.Meanings.{held, sound, told, meaning_of}
use Rattle.clock_pairs.proofs.Order.{Apart, decides_apart, gaps_of, few}

pub record Served (a b : ℕ) : Type 0 where
  pub upto : a ≤ b
  pub some : 0 < b
  pub few : most_stretches_lem a b ≤ 32

pub served_parts : (a b : ℕ) → served a b ≡ true → Served a b
served_parts a b e =
    let p = and_parts (sound_window a b) (leb (most_stretches_lem a b) 32) e in
    let q = and_parts (ltb a b) (leb b 864000) p.0 in
    let below = ltb-true a b q.0 in
    record { upto = omega arith; some = omega arith; few = leb-true (most_stretches_lem a b) 32 p.1 }

pub record Sound (c : ClockPairs) : Type 0 where
  pub window : served c.a c.b ≡ true
  pub room : c.len ≤ 32
  pub gaps : Apart c.a c.b 0 (held c)
  pub rest : vacant (drop c.len c.episodes) ≡ true

pub sound_parts : (c : ClockPairs) → sound c ≡ true → Sound c
sound_parts c e =
    let p = and_parts (served c.a c.b) (leb c.len 32 && (apart c.a c.b 0 (held c) && vacant (drop c.len c.episodes))) e in
    let q = and_parts (leb c.len 32) (apart c.a c.b 0 (held c) && vacant (drop c.len c.episodes)) p.1 in
    let r = and_parts (apart c.a c.b 0 (held c)) (vacant (drop c.len c.episodes)) q.1 in
    record { window = p.0; room = leb-true c.len 32 q.0; gaps = gaps_of c.a c.b 0 (held c) r.0; rest = r.1 }

pub sound_from : (c : ClockPairs) → served c.a c.b ≡ true → c.len ≤ 32 → Apart c.a c.b 0 (held c) → vacant (drop c.len c.episodes) ≡ true → sound c ≡ true
sound_from c w l g r = and_from _ _ w (and_from _ _ (le-leb _ _ l) (and_from _ _ ((decides_apart c.a c.b 0 (held c)).1 g) r))

pub when_sound : (c : ClockPairs) → sound c ≡ true → meaning_of c ≡ told c.a c.b (held c)
when_sound c e = cond-true (sound c) (told c.a c.b (held c)) new_memory e

-- empty places behind empty ones
pub vacant_after : (k : ℕ) (ys : List Episode) → vacant (replicate k (episode 0 0) ++ ys) ≡ vacant ys
vacant_after zero ys = refl
vacant_after (suc k) ys = vacant_after k ys

-- sound content with this window and these episodes
pub record Holds (m : ClockPairs) (a b : ℕ) (es : List Episode) : Type 0 where
  pub is_sound : sound m ≡ true
  pub has : held m ≡ es
  pub means : meaning_of m ≡ told a b es

-- content with these episodes and empty places behind them
pub holds : (m : ClockPairs) (a b : ℕ) (es zs : List Episode) → m.a ≡ a → m.b ≡ b → m.len ≡ length es → m.episodes ≡ es ++ zs
    → vacant zs ≡ true → served a b ≡ true → Apart a b 0 es → Holds m a b es
holds m a b es zs ea eb size stand none w g =
    let s = served_parts a b w in
    let room : m.len ≤ 32 = omega (arith, few a b 0 es g) in
    let has : held m ≡ es = ap₂ take size stand ∙ take_at es zs (length es) refl in
    let w' : served m.a m.b ≡ true = ap₂ served ea eb ∙ w in
    let g' : Apart m.a m.b 0 (held m) = rw (ea, eb, has) g in
    let is : sound m ≡ true = sound_from m w' room g' (ap vacant (ap₂ drop size stand ∙ drop_at es zs (length es) refl) ∙ none) in
    record { is_sound = is; has = has; means = when_sound m is ∙ ap₂ (λ x y. told x y (held m)) ea eb ∙ ap (told a b) has }

-- the episodes from place i on
module _ (n : ℕ) (xs : List Episode) where
  pub from_place : (i : ℕ) → i < n → n ≤ length xs → drop i (take n xs) ≡ get_or xs i (episode 0 0) ∷ drop (i + 1) (take n xs)
  from_place i lt le =
      drop_more (take n xs) i (episode 0 0) (omega (arith, length-take-le n xs le)) ∙ ap (λ e. e ∷ drop (i + 1) (take n xs)) (get_or-take n xs i (episode 0 0) lt)

  pub none_left : (i : ℕ) → n ≤ i → drop i (take n xs) ≡ []
  none_left i le = drop_all i (take n xs) (omega (arith, length-take n xs))

-- the newest episode
abbrev pub newest : ClockPairs → Episode
newest m = get_or m.episodes 0 (episode 0 0)

-- the newest episode is the first
pub newest_first : (m : ClockPairs) → m.len ≤ length m.episodes → 0 < m.len → held m ≡ newest m ∷ drop 1 (held m)
newest_first m le lt = from_place m.len m.episodes 0 lt le
