-- Past the words that hold the marks there is no stretch. Assumes nothing.
use Rattle.std.proofs.Common.{◌+◌, ◌-◌, ◌*◌, ◌≡◌, sym, ap, ◌∙◌, arith}
use Rattle.mitl.specs.Memory.{stretches, counted}
use Rattle.bit_marks.specs.Marks.{marked}
use Rattle.bit_marks.specs.Means.{when_sound, parts}
use Rattle.bit_marks.proofs.Stretches.{past_stretches}
use Rattle.bit_marks.proofs.content.Settled.count.Goals as goal

pub returns : goal.returns
returns c =
    let m = c.args.self.now.content in
    let mark = marked m.marks.words in
    let past : 64 * c.word_count.result ≡ m.b + (64 * c.word_count.result - m.b) = omega (arith, c.word_count.ensures.enough) in
    c.stretch_count.ensures ∙ ap (stretches mark) past ∙ past_stretches mark m.b (64 * c.word_count.result - m.b) (parts m c.args.self.now.made).none
    ∙ sym (ap counted (when_sound m c.args.self.now.made))
