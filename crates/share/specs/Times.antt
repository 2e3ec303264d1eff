-- A car's time by a list of notes. Assumes nothing.
use Rattle.std.specs.Prelude.{◌≡◌, List, Some, None, Ok, Err, Result}
use Rattle.refusal.specs.Faults.{first_fault}
use Rattle.record.specs.declared.Car.{Car}
use Rattle.record.specs.declared.Note.{Note}
use Rattle.share.specs.declared.CarTime.{CarTime}
use Rattle.share.specs.declared.ShareFault.{ShareFault}
use Rattle.share.specs.Replies.{refusal_of, note_faults}

-- The car's time by the notes if no fault holds, else the first fault.
abbrev pub Whole : List Note → Car → Result CarTime ShareFault → Type 0
Whole ns c (Ok t) = (first_fault (note_faults ns c) ≡ None) × (t.notes.now ≡ ns) × (t.car ≡ c)
Whole ns c (Err e) = first_fault (note_faults ns c) ≡ Some (refusal_of e)
