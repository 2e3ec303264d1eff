-- The ticks are those of the notes seen so far that count, whatever the test means. Assumes nothing.
use Rattle.std.proofs.Common.{◌≡◌, ◌*◌, ◌≤◌, Bool, take}
use Rattle.std.specs.Fn.{FnReturnsAt}
use Rattle.record.specs.declared.Note.{Note}
use Rattle.share.specs.Ticks.{ticks_where}
use Rattle.share.proofs.ticks_where.Given as goal

abbrev pub invariant-loop-note : goal.invariant-loop-note
invariant-loop-note g l =
    ((test : Note → Bool) → ((n : Note) (b : Bool) → FnReturnsAt g.F.Fn l.counts n b → b ≡ test n) → l.ticks ≡ ticks_where test (take l.note-index l.notes))
    × (l.ticks ≤ 4294967295 * l.note-index)
