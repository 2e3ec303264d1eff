-- Stretches counted word by word. Assumes nothing.
use Rattle.std.proofs.Common.{◌+◌, ◌-◌, ◌*◌, ◌∙◌, arith, rules, tests}
use Rattle.std.proofs.lemmas.List.FromFn.{length-range_with_len}
use Rattle.std.proofs.lemmas.Iterator.{YieldsList-from_range, YieldsList-from_map}
use Rattle.std.proofs.lemmas.Iterator.Adapters.{fits_from_length, at_most_from_yields_List}
use Rattle.std.proofs.lemmas.Iterator.Consumers.{sum_from_yields_List}
use Rattle.mitl.specs.Memory.{stretches}
use Rattle.bit_marks.specs.Marks.{marked}
use Rattle.bit_marks.proofs.Stretches.{stretches_by_word}
use Rattle.bit_marks.proofs.words.Marks.stretch_count.Goals as goal

pub sum-requires-clause-fits : goal.sum-requires-clause-fits
sum-requires-clause-fits c =
    fits_from_length _ _ 16 _ (at_most_from_yields_List (YieldsList-from_range 0 c.args.count c.args.count c.map.ensures.source (omega arith)) (omega (arith, length-range_with_len 0 c.args.count))) c.map.ensures.closure (omega arith) (λ x r q k. search (rules, tests))

pub returns : goal.returns
returns c =
    let mark = marked c.args.self.now.words in
    sum_from_yields_List c.map.result c.sum.result c.sum.ensures.ran
    (YieldsList-from_map _ (λ at. stretches mark (64 * at + 64) - stretches mark (64 * at)) (YieldsList-from_range 0 c.args.count c.args.count c.map.ensures.source (omega arith)) c.map.ensures.closure (λ x r q k. search rules))
    ∙ stretches_by_word mark c.args.count
