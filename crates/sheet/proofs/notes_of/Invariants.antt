use Rattle.std.proofs.Common.{◌≡◌, take, vec_items}
use Rattle.sheet.specs.Pieces.{all_notes}
use Rattle.sheet.proofs.notes_of.Given as goal

abbrev pub invariant-loop-piece : goal.invariant-loop-piece
invariant-loop-piece l = vec_items l.notes ≡ all_notes (take l.piece-index l.pieces)
