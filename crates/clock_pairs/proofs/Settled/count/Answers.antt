-- There are as many stretches as episodes. Assumes nothing.
use Rattle.std.proofs.Common.{sym, arith}
use Rattle.clock_pairs.proofs.Count.{count_is}
use Rattle.clock_pairs.proofs.Order.{few, gaps_of}
use Rattle.clock_pairs.proofs.Hold.{served_parts}
use Rattle.clock_pairs.proofs.Settled.count.Goals as goal

pub overflow_cast-result : goal.overflow_cast-result
overflow_cast-result c =
    let m = c.args.self.now in
    let w = m.window in
    omega (arith, (served_parts w.a w.b w.is_served).few, few w.a w.b 0 m.episodes.now (gaps_of w.a w.b 0 m.episodes.now m.gaps))

pub returns-clause-counts : goal.returns-clause-counts
returns-clause-counts c =
    let m = c.args.self.now in
    let w = m.window in
    sym (count_is w.a w.b (served_parts w.a w.b w.is_served).upto 0 m.episodes.now (gaps_of w.a w.b 0 m.episodes.now m.gaps))

pub returns-clause-few : goal.returns-clause-few
returns-clause-few c =
    let m = c.args.self.now in
    let w = m.window in
    few w.a w.b 0 m.episodes.now (gaps_of w.a w.b 0 m.episodes.now m.gaps)
