use Rattle.std.proofs.Common.{arith, rules}
use Rattle.share.specs.Ticks.{yes_of}
use Rattle.share.proofs.Sums.{rule_le, figure_le}
use Rattle.share.proofs.CarTime.share.Goals as goal

pub per_mille-requires : goal.per_mille-requires
per_mille-requires c =
    let t = c.args.self.now in
    let e = c.ticks_where-with_rule.ensures.value (yes_of t.car c.args.rule) (λ n b k. search rules) in
    (omega (arith, e, rule_le t.notes.now t.car c.args.rule), omega arith, omega arith)

pub overflow_cast-result : goal.overflow_cast-result
overflow_cast-result c =
    let t = c.args.self.now in
    let e = c.ticks_where-with_rule.ensures.value (yes_of t.car c.args.rule) (λ n b k. search rules) in
    omega (arith, figure_le c.ticks_where-with_rule.result t.all (omega (arith, e, rule_le t.notes.now t.car c.args.rule)) (omega arith))
