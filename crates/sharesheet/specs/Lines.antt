-- What stands in a car's line. Assumes nothing.
use Rattle.std.specs.Prelude.{◌≡◌, List, Some, None, Ok, Err, Result}
use Rattle.refusal.specs.Faults.{first_fault}
use Rattle.refusal.specs.declared.Refusal.{Refusal}
use Rattle.record.specs.declared.Car.{Car}
use Rattle.record.specs.declared.Note.{Note}
use Rattle.share.specs.Replies.{note_faults}
use Rattle.sheet.specs.declared.Row.{Row}
use Rattle.sheet.specs.Rows.{Sums}
use Rattle.sharesheet.specs.declared.table.Line.{Line}

-- The car's ticks and figures if no fault holds, else the number and place of its first fault.
abbrev pub Figures : List Note → Car → Result Row Refusal → Type 0
Figures ns c (Ok row) = (first_fault (note_faults ns c) ≡ None) × Sums ns c row
Figures ns c (Err r) = first_fault (note_faults ns c) ≡ Some r

-- The car, with these.
abbrev pub Lined : List Note → Car → Line → Type 0
Lined ns c line = (line.car ≡ c) × Figures ns c line.row
