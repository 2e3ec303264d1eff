-- The text of a record, where a clause can speak of it. Assumes nothing.
use Rattle.std.specs.Prelude.{ℕ, cond, List, ◌++◌, Some, None, codes, decimal, Option}
use Rattle.record.specs.declared.Record.{Record}
use Rattle.record.specs.Layout.{is_R, is_E}

-- R and E are shown with their car. The words of the others have a width, of which no clause speaks.
abbrev pub record_text : Record → Option (List ℕ)
record_text r =
    cond (is_R r.letter) (Some (codes "R restart car " ++ decimal r.car.number))
    (cond (is_E r.letter) (Some (codes "E end car " ++ decimal r.car.number)) None)
