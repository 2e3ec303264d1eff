-- Ticks at which the operand is no. Assumes nothing.
use Rattle.std.proofs.Common.{sym, ap, ◌∙◌, arith}
use Rattle.mitl.specs.Memory.{took}
use Rattle.clock_pairs.specs.Meanings.{held}
use Rattle.clock_pairs.proofs.Hold.{served_parts, sound_parts, when_sound}
use Rattle.clock_pairs.proofs.Takes.{takes_none}
use Rattle.clock_pairs.proofs.After.{all_grown}
use Rattle.clock_pairs.proofs.SettledMut.take_no.Goals as goal

pub grow_old-requires : goal.grow_old-requires
grow_old-requires c = (omega arith, (sound_parts c.args.self.pairs.now c.args.self.sound).room)

pub invariant_of-self : goal.invariant_of-self
invariant_of-self c =
    let m = c.args.self.pairs.now in
    let out = c.grow_old.ensures in
    record { sound = (all_grown m c.grow_old.new.self c.args.n c.args.self.sound out.window.0 out.window.1 out.many out.stand).is_sound }

pub returns : goal.returns
returns c v idle =
    let m = c.args.self.pairs.now in
    let n = c.args.n in
    let out = c.grow_old.ensures in
    let s = sound_parts m c.args.self.sound in
    (all_grown m c.grow_old.new.self n c.args.self.sound out.window.0 out.window.1 out.many out.stand).means
    ∙ takes_none m.a m.b (served_parts m.a m.b s.window).upto (held m) n v idle ∙ ap (took v n) (sym (when_sound m c.args.self.sound))
