use Rattle.std.proofs.Common.{Some, None, vec_items, sym, ap, ◌∙◌, arith}
use Rattle.std.proofs.lemmas.List.{append-nil}
use Rattle.sheet.proofs.Gathered.{notes_more}
use Rattle.sheet.proofs.notes_of.Goals as goal
use Rattle.sheet.proofs.notes_of.Goals.{in-Some+in_ok-push, in_default}

pub loop-piece-preserved : goal.loop-piece-preserved
loop-piece-preserved c =
    let ps = c.args.pieces.now in
    let i = c.loop-piece.piece-index in
    let so_far = vec_items c.loop-piece.notes in
    let all = vec_items c.match-note_told.notes in
    let told = c.note_told.ensures in
    elim c.match-note_told.branch [
      | in-Some+in_ok-push w ↦ notes_more ps i _ (omega arith) so_far all (Some w.in-Some.note) c.loop-piece.invariant (sym w.in-Some.is ∙ told) (ap vec_items w.notes-is ∙ w.in_ok-push.ensures.items)
      | in_default w ↦ notes_more ps i _ (omega arith) so_far all None c.loop-piece.invariant (sym w.in_default.is ∙ told) (ap vec_items w.notes-is ∙ sym (append-nil so_far))
    ]
