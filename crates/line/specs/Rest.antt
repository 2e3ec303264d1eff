-- What is left of a record once some of its ticks are taken. Assumes nothing.
use Rattle.std.specs.Prelude.{◌≡◌, ℕ, ◌+◌, ◌<◌, ◌≤◌, List, Some, None, Option}
use Rattle.record.specs.declared.Record.{Record}
use Rattle.record.specs.Layout.{fields_at}

-- The rest has the other ticks, one at least, and all else as it was.
pub record Left (whole : Record) (taken : ℕ) (r : Record) : Type 0 where
  pub some_taken : 0 < taken
  pub some_left : 0 < r.ticks
  pub ticks_are : taken + r.ticks ≡ whole.ticks
  pub letter_is : r.letter ≡ whole.letter
  pub car_is : r.car ≡ whole.car
  pub word_is : r.word ≡ whole.word

-- There is a rest exactly when some ticks were taken and not all.
abbrev pub Rest : Record → ℕ → Option Record → Type 0
Rest whole taken (Some r) = Left whole taken r
Rest whole taken None = 0 < taken → whole.ticks ≤ taken

-- What is left once the record in some bytes was fed: nothing, or a rest of that record.
abbrev pub RestOfBytes : List ℕ → Option Record → Type 0
RestOfBytes bytes (Some r) = (taken : ℕ) × Left (fields_at bytes) taken r
RestOfBytes bytes None = Unit {0}
