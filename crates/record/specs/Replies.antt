-- The one reply to each reading and writing of a record. Assumes nothing.
use Rattle.std.specs.Prelude.{◌≡◌, ℕ, List, [], ◌∷◌, ◌++◌, length, drop, Some, None, Ok, Err, Option, Result, slice_index}
use Rattle.refusal.specs.declared.Refusal.{Refusal}
use Rattle.refusal.specs.Faults.{refusal, first_fault}
use Rattle.record.specs.declared.Record.{Record}
use Rattle.record.specs.declared.RecordFault.{RecordFault}
use Rattle.record.specs.declared.RecordFault.TheVariants.{NotTwelve, UnknownLetter, BadZero, BadCar, BadLength, BadWord, NoRoom}
use Rattle.record.specs.Layout.{two, two_at, four_at, bytes_of, fields_at, field_faults, apart_faults, reading_faults, writing_faults, passing_faults}

-- each refusal's number and place
abbrev pub refusal_of : RecordFault → Refusal
refusal_of NotTwelve = refusal 14 0
refusal_of UnknownLetter = refusal 15 0
refusal_of BadZero = refusal 16 1
refusal_of BadCar = refusal 16 2
refusal_of BadLength = refusal 16 4
refusal_of BadWord = refusal 16 8
refusal_of NoRoom = refusal 22 0

-- the fields that stand in twelve bytes
pub record Fields (bytes : List ℕ) (zero-byte : ℕ) (r : Record) : Type 0 where
  pub twelve : length bytes ≡ 12
  pub letter_is : r.letter ≡ slice_index bytes 0
  pub zero_is : zero-byte ≡ slice_index bytes 1
  pub car_is : r.car.number ≡ two_at bytes 2
  pub ticks_is : r.ticks ≡ four_at bytes 4
  pub word_is : r.word ≡ four_at bytes 8

abbrev pub Apart : List ℕ → Option (ℕ × Record) → Type 0
Apart bytes None = length bytes ≡ 12 → ⊥
Apart bytes (Some (z, r)) = Fields bytes z r

-- the first of car, length and word that is wrong
abbrev pub CheckedFields : Record → Result Unit RecordFault → Type 0
CheckedFields r (Ok u) = first_fault (field_faults r) ≡ None
CheckedFields r (Err e) = first_fault (field_faults r) ≡ Some (refusal_of e)

-- the letter, the zero byte and the fields, in this order
abbrev pub Checked : Record → ℕ → Result Record RecordFault → Type 0
Checked r z (Ok s) = (first_fault (apart_faults r z) ≡ None) × (s ≡ r)
Checked r z (Err e) = first_fault (apart_faults r z) ≡ Some (refusal_of e)

-- Bytes without a fault are read as the record whose bytes they are; else the first fault is the refusal.
abbrev pub Read : List ℕ → Result Record RecordFault → Type 0
Read bytes (Ok r) = (first_fault (reading_faults bytes) ≡ None) × (bytes ≡ bytes_of r) × (r ≡ fields_at bytes)
Read bytes (Err e) = first_fault (reading_faults bytes) ≡ Some (refusal_of e)

-- A record without a fault fills the first twelve bytes of the buffer and no others; a refusal leaves the buffer as it was.
abbrev pub Written : Record → List ℕ → List ℕ → Result ℕ RecordFault → Type 0
Written r old new (Ok n) = (first_fault (writing_faults r (length old)) ≡ None) × (n ≡ 12) × (new ≡ bytes_of r ++ drop 12 old)
Written r old new (Err e) = (first_fault (writing_faults r (length old)) ≡ Some (refusal_of e)) × (new ≡ old)

-- A record without a fault, written and read, is itself.
abbrev pub Back : Record → Result Record RecordFault → Type 0
Back r (Ok s) = (first_fault (writing_faults r 12) ≡ None) × (s ≡ r)
Back r (Err e) = first_fault (writing_faults r 12) ≡ Some (refusal_of e)

-- Twelve bytes without a fault, read and written, are the same twelve.
abbrev pub Passed : List ℕ → List ℕ → List ℕ → Result ℕ RecordFault → Type 0
Passed bytes old new (Ok n) = (first_fault (passing_faults bytes (length old)) ≡ None) × (n ≡ 12) × (new ≡ bytes ++ drop 12 old)
Passed bytes old new (Err e) = (first_fault (passing_faults bytes (length old)) ≡ Some (refusal_of e)) × (new ≡ old)

-- The byte order: car 1 is 00 01, and 01 00 is car 256.
abbrev pub Order : Type 0
Order = (two 1 ≡ 0 ∷ 1 ∷ []) × (two 256 ≡ 1 ∷ 0 ∷ [])
