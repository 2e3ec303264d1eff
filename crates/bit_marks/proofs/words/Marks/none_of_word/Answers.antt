-- A word without the bits below b tells whether it has marks from b on. Assumes nothing.
use Rattle.std.proofs.lemmas.Bool.Decides.{Decides-like, Decides-eqb}
use Rattle.bit_marks.specs.Places.{rest_none, rest_zero}
use Rattle.bit_marks.proofs.words.Marks.none_of_word.Goals as goal

pub returns : goal.returns
returns c =
    let ws = c.args.self.now.words in
    let none = rest_none ws c.args.b c.args.at c.word_at.result c.below.result c.word_at.ensures c.below.type_inv c.below.ensures in
    let zero = rest_zero ws c.args.b c.args.at c.word_at.result c.below.result c.word_at.ensures c.below.type_inv c.below.ensures c.word_at.type_inv in
    Decides-like _ none zero (Decides-eqb _ 0)
