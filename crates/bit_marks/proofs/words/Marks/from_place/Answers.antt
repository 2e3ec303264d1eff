-- The 64 marks from a place on. Assumes nothing.
use Rattle.std.proofs.Common.{◌≡◌, ℕ, ◌+◌, ◌-◌, ◌*◌, ◌/◌, ◌%◌, cond, ltb, slice_index, ◌∙◌, ap₂, arith}
use Rattle.mitl.specs.Formulas.{bit}
use Rattle.bit_marks.specs.Places.{from_place}
use Rattle.bit_marks.proofs.words.Marks.from_place.Goals as goal

pub returns : goal.returns
returns c k h =
    let by = c.args.by in
    let d : ℕ = 64 * c.args.at + by in
    let low : c.args.at ≡ d / 64 = omega arith in
    let place : by ≡ d % 64 = omega arith in
    c.joined.ensures k h
    ∙ ap₂ (λ x y. cond (ltb (k + by) 64) (bit (k + by) x) (bit (k + by - 64) y)) c.word_at.ensures c.word_at-2.ensures
    ∙ ap₂ (λ i s. cond (ltb (k + s) 64) (bit (k + s) (slice_index c.args.self.now.words i)) (bit (k + s - 64) (slice_index c.args.self.now.words (i + 1)))) low place
    ∙ from_place c.args.self.now.words d k h
