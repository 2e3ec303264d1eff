-- Ticks at which the operand is yes and an episode rises. Assumes nothing.
use Rattle.std.proofs.Common.{◌≡◌, ℕ, ◌+◌, ◌-◌, ◌<◌, min, true, false, ◌∷◌, ◌++◌, length, drop, replicate, sym, ap, ◌∙◌, zero-add, arith}
use Rattle.mitl.specs.Memory.{took}
use Rattle.clock_pairs.specs.declared.ClockPairs.{ClockPairs}
use Rattle.clock_pairs.specs.Episodes.{episode, lasting}
use Rattle.clock_pairs.specs.Meanings.{goes_on, held, sound}
use Rattle.clock_pairs.proofs.Order.{Apart, apart_new, few}
use Rattle.clock_pairs.proofs.Hold.{Holds, served_parts, sound_parts, when_sound}
use Rattle.clock_pairs.proofs.Takes.{takes_new}
use Rattle.clock_pairs.proofs.After.{all_grown, far, with_first}
use Rattle.clock_pairs.proofs.SettledMut.take_rise.Goals as goal

-- the gaps once the episode has risen
gaps : (m : ClockPairs) (n : ℕ) → sound m ≡ true → 0 < n → false ≡ goes_on m → Apart m.a m.b 0 (episode (min m.b n) 0 ∷ lasting m.b n (held m))
gaps m n is pos new =
    let s = sound_parts m is in
    let w = served_parts m.a m.b s.window in
    apart_new m.a m.b w.upto n w.some pos (held m) (far m new s.gaps)

pub grow_old-requires : goal.grow_old-requires
grow_old-requires c = (omega arith, (sound_parts c.args.self.pairs.now c.args.self.sound).room)

pub put_first-requires : goal.put_first-requires
put_first-requires c =
    let m = c.args.self.pairs.now in
    let w = served_parts m.a m.b (sound_parts m c.args.self.sound).window in
    omega (arith, few m.a m.b 0 (episode (min m.b c.args.n) 0 ∷ lasting m.b c.args.n (held m)) (gaps m c.args.n c.args.self.sound c.requires.ticks c.requires.new), w.few, c.grow_old.ensures.many)

-- the new episode in front of the others, which are n ticks on
risen : (m then last : ClockPairs) (n rise : ℕ) → sound m ≡ true → 0 < n → false ≡ goes_on m → rise ≡ min m.b (0 + n)
    → then.a ≡ m.a → then.b ≡ m.b → then.len ≡ length (lasting m.b n (held m))
    → then.episodes ≡ lasting m.b n (held m) ++ (replicate (m.len - then.len) (episode 0 0) ++ drop m.len m.episodes)
    → last.a ≡ then.a → last.b ≡ then.b → last.len ≡ then.len + 1 → last.episodes ≡ (episode rise 0 ∷ held then) ++ drop (then.len + 1) then.episodes
    → Holds last m.a m.b (episode (min m.b n) 0 ∷ lasting m.b n (held m))
risen m then last n rise is pos new grew ea eb size stand ea' eb' more stand' =
    let front : episode rise 0 ≡ episode (min m.b n) 0 = ap (λ r. episode r 0) (grew ∙ ap (min m.b) (zero-add n)) in
    with_first then last m.a m.b (episode (min m.b n) 0) (lasting m.b n (held m)) (all_grown m then n is ea eb size stand) (sound_parts m is).window (gaps m n is pos new)
    (ea' ∙ ea) (eb' ∙ eb) more size (stand' ∙ ap (λ e. (e ∷ held then) ++ drop (then.len + 1) then.episodes) front)

pub invariant_of-self : goal.invariant_of-self
invariant_of-self c =
    let m = c.args.self.pairs.now in
    let out = c.grow_old.ensures in
    let more = c.put_first.ensures in
    record {
      sound = (risen m c.grow_old.new.self c.put_first.new.self c.args.n c.grown-rise.result c.args.self.sound c.requires.ticks c.requires.new c.grown-rise.ensures
          out.window.0 out.window.1 out.many out.stand more.window.0 more.window.1 more.many more.stand).is_sound;
    }

pub returns : goal.returns
returns c =
    let m = c.args.self.pairs.now in
    let n = c.args.n in
    let out = c.grow_old.ensures in
    let more = c.put_first.ensures in
    (risen m c.grow_old.new.self c.put_first.new.self c.args.n c.grown-rise.result c.args.self.sound c.requires.ticks c.requires.new c.grown-rise.ensures
    out.window.0 out.window.1 out.many out.stand more.window.0 more.window.1 more.many more.stand).means
    ∙ takes_new m.a m.b (served_parts m.a m.b (sound_parts m c.args.self.sound).window).upto (held m) n c.requires.ticks ∙ ap (took true n) (sym (when_sound m c.args.self.sound))
