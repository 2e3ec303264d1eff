-- The reply on the run that begins. Assumes nothing.
use Rattle.std.proofs.Common.{◌≡◌, ◌-◌, ◌<◌, true, false, Some, sym, subst, arith}
use Rattle.std.proofs.lemmas.Bool.{both_ways}
use Rattle.clock_pairs.proofs.Order.{gaps_of}
use Rattle.clock_pairs.proofs.Hold.{served_parts}
use Rattle.clock_pairs.proofs.Oldest.{Reply, replies_not_yet, replies_until, replies_for_ever}
use Rattle.clock_pairs.proofs.Settled.forecast.Goals as goal
use Rattle.clock_pairs.proofs.Settled.forecast.Goals.{else-operand-via-then-operand+else-self-end, else-operand-via-else-operand}

pub returns-then-start-gt0 : goal.returns-then-start-gt0
returns-then-start-gt0 c =
    let m = c.args.self.now in
    let w = m.window in
    let es = m.episodes.now in
    let v = c.args.operand in
    let o = c.in-Some.oldest.now in
    subst (λ n. Reply w.a w.b v es false (Some n)) (sym c.start-start.ensures)
    (replies_not_yet w.a w.b (served_parts w.a w.b w.is_served).upto v es o c.in-Some.ensures.value (gaps_of w.a w.b 0 es m.gaps) (omega arith))

pub returns-then-self-end : goal.returns-then-self-end
returns-then-self-end c =
    let m = c.args.self.now in
    let w = m.window in
    let es = m.episodes.now in
    let o = c.in-Some.oldest.now in
    replies_for_ever w.a w.b (served_parts w.a w.b w.is_served).upto c.args.operand es o c.in-Some.ensures.value (gaps_of w.a w.b 0 es m.gaps) (omega arith) c.if-operand.true (omega arith)

pub returns-else-operand : goal.returns-else-operand
returns-else-operand c =
    let m = c.args.self.now in
    let w = m.window in
    let es = m.episodes.now in
    let v = c.args.operand in
    let o = c.in-Some.oldest.now in
    let end = c.end-end.ensures in
    let short : v ≡ true → w.b - o.fall < w.a =
    λ on. elim c.else-operand.branch [
      | else-operand-via-then-operand+else-self-end k ↦ omega (arith, k.if-self-end.false)
      | else-operand-via-else-operand k ↦ absurd (both_ways v k.if-operand.false on)
    ] in
    subst (λ n. Reply w.a w.b v es true (Some n)) (sym end)
    (replies_until w.a w.b (served_parts w.a w.b w.is_served).upto v es o c.in-Some.ensures.value (gaps_of w.a w.b 0 es m.gaps) (omega arith) short)
