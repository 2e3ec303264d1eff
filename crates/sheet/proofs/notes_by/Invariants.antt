use Rattle.std.proofs.Common.{◌≡◌, take, vec_items, filter}
use Rattle.share.specs.Ticks.{of_car}
use Rattle.sheet.proofs.notes_by.Given as goal

abbrev pub invariant-loop-note : goal.invariant-loop-note
invariant-loop-note l = vec_items l.own ≡ filter (of_car l.car) (take l.note-index l.notes)
