-- The bytes of a line, by what it tells. Assumes nothing.
use Rattle.std.specs.Prelude.{ℕ, List}
use Rattle.line.specs.declared.text.Text.{Text}
use Rattle.line.specs.declared.text.Text.TheVariants.{Note, Car, Counts, Refusal}
use Rattle.line.specs.Lines.{note_line, car_line, counts_line, refusal_line}

abbrev pub text_line : Text → List ℕ
text_line (Note n) = note_line n
text_line (Car c) = car_line c
text_line (Counts c) = counts_line c
text_line (Refusal r) = refusal_line r
