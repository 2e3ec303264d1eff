-- The twelve bytes of a record, and what a record may hold. Assumes nothing.
use Rattle.std.specs.Prelude.{ℕ, ◌+◌, ◌*◌, ◌/◌, ◌%◌, Bool, cond, not, ◌&&◌, ◌||◌, List, [], ◌∷◌, ◌++◌, length, ◌==◌, nat_le, nat_lt, slice_index}
use Rattle.refusal.specs.Faults.{Fault, fault}
use Rattle.record.specs.declared.Record.{Record}

-- a number in two bytes and in four, the most significant byte first
abbrev pub two : ℕ → List ℕ
two n = (n / 256 % 256) ∷ (n % 256) ∷ []

abbrev pub four : ℕ → List ℕ
four n = (n / 16777216 % 256) ∷ (n / 65536 % 256) ∷ (n / 256 % 256) ∷ (n % 256) ∷ []

-- letter, a zero byte, car, length and word
abbrev pub bytes_of : Record → List ℕ
bytes_of r = r.letter ∷ 0 ∷ (two r.car.number ++ (four r.ticks ++ four r.word))

-- the letters: R restart, I inputs, E end, V verdict
abbrev pub is_R : ℕ → Bool
is_R letter = letter == 82

abbrev pub is_I : ℕ → Bool
is_I letter = letter == 73

abbrev pub is_E : ℕ → Bool
is_E letter = letter == 69

abbrev pub is_V : ℕ → Bool
is_V letter = letter == 86

abbrev pub known : ℕ → Bool
known letter = (is_R letter || is_I letter) || (is_E letter || is_V letter)

-- R and E have no length; I and V have one, of at most a day of ticks
abbrev pub length_ok : ℕ → ℕ → Bool
length_ok letter n = cond (is_R letter || is_E letter) (n == 0) (nat_lt 0 n && nat_le n 864000)

-- R and E have no word, I has any, and V one of sixteen bits
abbrev pub word_ok : ℕ → ℕ → Bool
word_ok letter w = cond (is_R letter || is_E letter) (w == 0) (not (is_V letter) || nat_le w 65535)

-- the numbers that stand in a list of bytes from byte i on
abbrev pub two_at : List ℕ → ℕ → ℕ
two_at bytes i = slice_index bytes i * 256 + slice_index bytes (i + 1)

abbrev pub four_at : List ℕ → ℕ → ℕ
four_at bytes i = slice_index bytes i * 16777216 + slice_index bytes (i + 1) * 65536 + slice_index bytes (i + 2) * 256 + slice_index bytes (i + 3)

-- the fields as they stand in a record's bytes
abbrev pub fields_at : List ℕ → Record
fields_at bytes = record { letter = slice_index bytes 0; car = record { number = two_at bytes 2 }; ticks = four_at bytes 4; word = four_at bytes 8 }

-- a wrong car, length or word: its place is its first byte
abbrev pub car_fault : ℕ → Fault
car_fault n = fault (n == 0) 16 2

abbrev pub length_fault : ℕ → ℕ → Fault
length_fault letter n = fault (not (length_ok letter n)) 16 4

abbrev pub word_fault : ℕ → ℕ → Fault
word_fault letter w = fault (not (word_ok letter w)) 16 8

abbrev pub letter_fault : ℕ → Fault
letter_fault letter = fault (not (known letter)) 15 0

abbrev pub field_faults : Record → List Fault
field_faults r = car_fault r.car.number ∷ length_fault r.letter r.ticks ∷ word_fault r.letter r.word ∷ []

abbrev pub zero_fault : ℕ → Fault
zero_fault z = fault (not (z == 0)) 16 1

-- what can be wrong with the fields of twelve bytes, in the order in which it is looked for
abbrev pub apart_faults : Record → ℕ → List Fault
apart_faults r z = letter_fault r.letter ∷ (zero_fault z ∷ field_faults r)

-- what can be wrong with bytes that are read as a record, in the order in which it is looked for
abbrev pub reading_faults : List ℕ → List Fault
reading_faults bytes = fault (not (length bytes == 12)) 14 0 ∷ apart_faults (fields_at bytes) (slice_index bytes 1)

-- a buffer with no room for a record
abbrev pub room_fault : ℕ → Fault
room_fault room = fault (nat_lt room 12) 22 0

-- what can be wrong with a record that is to be written into so many bytes
abbrev pub writing_faults : Record → ℕ → List Fault
writing_faults r room = letter_fault r.letter ∷ (field_faults r ++ (room_fault room ∷ []))

-- what can be wrong with bytes that are read as a record and written again
abbrev pub passing_faults : List ℕ → ℕ → List Fault
passing_faults bytes room = reading_faults bytes ++ (room_fault room ∷ [])
