-- Marks after some ticks. Assumes nothing.
use Rattle.std.proofs.Common.{◌≡◌, ℕ, ◌+◌, ◌-◌, ◌*◌, ◌<◌, ◌≤◌, Bool, true, false, cond, ◌&&◌, ◌||◌, ltb, leb, List, sym, ap, ◌∙◌, ap₂, ⊎_elim, arith}
use Rattle.std.proofs.lemmas.Bool.{cases_lt}
use Rattle.mitl.specs.Memory.{took, taken}
use Rattle.bit_marks.specs.declared.BitMarks.{BitMarks}
use Rattle.bit_marks.specs.Marks.{marked, meaning_of, sound}
use Rattle.bit_marks.specs.Means.{when_sound, parts, the_marks, marks_sound, marks_mean, taken_is, taken_none}
use Rattle.bit_marks.proofs.content.Settled.after.Goals as goal

-- marks in words enough for those below b, moved down by n and set from a - n on where the operand is yes
module _ (m : BitMarks) (made : sound m ≡ true) (v : Bool) (n count first end : ℕ) (ws : List ℕ) (enough : m.b ≤ 64 * count)
    (from : first ≡ m.a - n) (to : end ≡ cond (v && ltb 0 n) m.b 0)
    (kept : (d : ℕ) → d < 64 * count → marked ws d ≡ (marked m.marks.words (d + n) || (leb first d && ltb d end)))
    (none : (d : ℕ) → 64 * count ≤ d → marked ws d ≡ false) where
  past : (d : ℕ) → m.b ≤ d → taken m.a m.b v n (marked m.marks.words) d ≡ false
  past d h = let p = parts m made in taken_none m.a m.b n d v (marked m.marks.words) (omega (arith, p.order)) p.none h

  same : (d : ℕ) → marked ws d ≡ taken m.a m.b v n (marked m.marks.words) d
  same d =
      let p = parts m made in
      ⊎_elim
      (λ (l : d < 64 * count). kept d l ∙ ap₂ (λ x y. marked m.marks.words (d + n) || (leb x d && ltb d y)) from to ∙ taken_is m.a m.b n d v (marked m.marks.words) (omega (arith, p.order)))
      (λ (l : 64 * count ≤ d). none d l ∙ sym (past d (omega arith))) (cases_lt d (64 * count))

  after_sound : sound (the_marks m.a m.b ws) ≡ true
  after_sound = marks_sound m.a m.b ws (taken m.a m.b v n (marked m.marks.words)) (parts m made).admitted same past

  after_means : meaning_of (the_marks m.a m.b ws) ≡ took v n (meaning_of m)
  after_means = marks_mean m.a m.b ws (taken m.a m.b v n (marked m.marks.words)) (parts m made).admitted same past ∙ ap (took v n) (sym (when_sound m made))

pub invariant_of-result : goal.invariant_of-result
invariant_of-result c = record {
  made = after_sound c.args.self.content c.args.self.made c.args.operand c.args.n c.word_count.result c.saturating_sub-first.result c.set_end-end.result c.advanced-marks.result.words
      c.word_count.ensures.enough c.saturating_sub-first.ensures c.set_end-end.ensures c.advanced-marks.ensures.kept c.advanced-marks.ensures.none;
}

pub returns : goal.returns
returns c =
    after_means c.args.self.content c.args.self.made c.args.operand c.args.n c.word_count.result c.saturating_sub-first.result c.set_end-end.result c.advanced-marks.result.words
    c.word_count.ensures.enough c.saturating_sub-first.ensures c.set_end-end.ensures c.advanced-marks.ensures.kept c.advanced-marks.ensures.none
