use Rattle.std.proofs.Common.{true, false, refl, sym, ap, ◌∙◌, arith}
use Rattle.std.proofs.lemmas.Fn.{says_at}
use Rattle.std.proofs.lemmas.List.{take_all}
use Rattle.share.specs.Ticks.{ticks_where}
use Rattle.share.proofs.Sums.{counted_more, passed_more}
use Rattle.share.proofs.ticks_where.Goals as goal
use Rattle.share.proofs.ticks_where.Goals.{then-counts, else-counts}

pub loop-note-preserved : goal.loop-note-preserved
loop-note-preserved g c =
    elim c.if-counts.branch [
      | then-counts w ↦ (
        λ test computes.
            let e = counted_more test c.args.notes.now c.loop-note.note-index _ (omega arith) (sym (computes _ true (says_at _ w.if-counts.ensures refl))) in
            omega (arith, e, c.loop-note.invariant.0 test computes),
        omega arith,
      )
      | else-counts w ↦ (
        λ test computes.
            let e = passed_more test c.args.notes.now c.loop-note.note-index _ (omega arith) (sym (computes _ false (says_at _ w.if-counts.ensures refl))) in
            omega (arith, e, c.loop-note.invariant.0 test computes),
        omega arith,
      )
    ]

pub returns-clause-value : goal.returns-clause-value
returns-clause-value g c test computes = c.loop-note.invariant.0 test computes ∙ ap (λ ns. ticks_where test ns) (take_all c.loop-note.note-index c.args.notes.now c.loop-note-test.false)
