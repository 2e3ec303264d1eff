-- Ticks at which the operand is yes and goes on with the newest episode. Assumes nothing.
use Rattle.std.proofs.Common.{◌≡◌, ℕ, zero, suc, ◌+◌, ◌-◌, ◌<◌, min, true, List, [], ◌∷◌, ◌++◌, length, take, drop, set, replicate, sym, refl, ap, ◌∙◌, subst, arith, rules}
use Rattle.std.proofs.lemmas.List.{drop-set-lt}
use Rattle.mitl.specs.Memory.{took}
use Rattle.clock_pairs.specs.declared.Episode.{Episode}
use Rattle.clock_pairs.specs.declared.ClockPairs.{ClockPairs}
use Rattle.clock_pairs.specs.Episodes.{aged, episode, lasting, vacant}
use Rattle.clock_pairs.specs.Meanings.{held, sound, told}
use Rattle.clock_pairs.proofs.Order.{Apart, apart_on}
use Rattle.clock_pairs.proofs.Hold.{Holds, holds, newest, newest_first, served_parts, sound_parts, vacant_after, when_sound}
use Rattle.clock_pairs.proofs.Takes.{takes_on}
use Rattle.clock_pairs.proofs.After.{near}
use Rattle.clock_pairs.proofs.SettledMut.take_on.Goals as goal

replaced : (b n k : ℕ) (xs : List Episode) (e : Episode) → 0 < k → 0 < length xs → aged b n 1 (take k (set xs 0 e)) ≡ e ∷ lasting b n (drop 1 (take k xs))
replaced b n zero xs e lt some = absurd (omega arith)
replaced b n (suc k) [] e lt some = absurd (omega arith)
replaced b n (suc k) (x ∷ xs) e lt some = refl

-- the newest episode goes on, and the others are n ticks on
gone_on : (m then : ClockPairs) (n : ℕ) (e : Episode) → length m.episodes ≡ 32 → sound m ≡ true → 0 < m.len → e ≡ episode (min m.b ((newest m).rise + n)) 0 → then.a ≡ m.a → then.b ≡ m.b
    → then.len ≡ length (aged m.b n 1 (take m.len (set m.episodes 0 e)))
    → then.episodes ≡ aged m.b n 1 (take m.len (set m.episodes 0 e)) ++ (replicate (m.len - then.len) (episode 0 0) ++ drop m.len (set m.episodes 0 e))
    → Holds then m.a m.b (episode (min m.b ((newest m).rise + n)) 0 ∷ lasting m.b n (drop 1 (held m)))
gone_on m then n e full is some rise ea eb size stand =
    let s = sound_parts m is in
    let rest = drop 1 (held m) in
    let gaps = apart_on m.a m.b (served_parts m.a m.b s.window).upto n (newest m) rest (subst (Apart m.a m.b 0) (newest_first m (omega (arith, s.room)) some) s.gaps) in
    let was = replaced m.b n m.len m.episodes e some (omega arith) ∙ ap (λ x. x ∷ lasting m.b n rest) rise in
    let back = drop m.len (set m.episodes 0 e) in
    let zs = replicate (m.len - then.len) (episode 0 0) ++ back in
    holds then m.a m.b (episode (min m.b ((newest m).rise + n)) 0 ∷ lasting m.b n rest) zs ea eb (size ∙ ap length was) (stand ∙ ap (λ xs. xs ++ zs) was)
    (vacant_after (m.len - then.len) back ∙ ap vacant (drop-set-lt m.len m.episodes 0 e some) ∙ s.rest) s.window gaps

pub grow_old-requires : goal.grow_old-requires
grow_old-requires c =
    let m = c.args.self.pairs.now in
    let s = sound_parts m c.args.self.sound in
    ((near m (sym c.requires.on)).0, s.room)

pub invariant_of-self : goal.invariant_of-self
invariant_of-self c =
    let m = c.args.self.pairs.now in
    let full : length m.episodes ≡ 32 = search rules in
    let some = (near m (sym c.requires.on)).0 in
    let out = c.grow_old.ensures in
    record { sound = (gone_on m c.grow_old.new.self c.args.n (episode c.grown-rise.result 0) full c.args.self.sound some (ap (λ r. episode r 0) c.grown-rise.ensures) out.window.0 out.window.1 out.many out.stand).is_sound }

pub returns : goal.returns
returns c =
    let m = c.args.self.pairs.now in
    let n = c.args.n in
    let full : length m.episodes ≡ 32 = search rules in
    let s = sound_parts m c.args.self.sound in
    let on = near m (sym c.requires.on) in
    let out = c.grow_old.ensures in
    let first = newest_first m (omega (arith, s.room)) on.0 in
    let gaps = subst (Apart m.a m.b 0) first s.gaps in
    (gone_on m c.grow_old.new.self n (episode c.grown-rise.result 0) full c.args.self.sound on.0 (ap (λ r. episode r 0) c.grown-rise.ensures) out.window.0 out.window.1 out.many out.stand).means
    ∙ takes_on m.a m.b (served_parts m.a m.b s.window).upto (drop 1 (held m)) n (newest m) c.requires.ticks on.1 (omega (arith, gaps.1))
    ∙ ap (λ xs. took true n (told m.a m.b xs)) (sym first) ∙ ap (took true n) (sym (when_sound m c.args.self.sound))
