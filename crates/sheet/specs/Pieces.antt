-- What a line or a record of the input tells of. Assumes nothing.
use Rattle.std.specs.Prelude.{◌≡◌, ℕ, ◌^◌, ◌<◌, Bool, true, false, ◌||◌, ◌⊎◌, List, [], ◌∷◌, ◌++◌, length, take, drop, Some, None, Ok, Err, MatchBool, Option, Result, ◌==◌, ◌≢◌, slice_index}
use Rattle.std.specs.Borrow.{Bor}
use Rattle.std.specs.List.{filter_map}
use Rattle.std.specs.Str.Parse.{IsNumeral, digits_value, without_leading_plus}
use Rattle.refusal.specs.Faults.{first_fault}
use Rattle.record.specs.declared.Record.{Record}
use Rattle.record.specs.declared.Note.{Note}
use Rattle.record.specs.Layout.{fields_at, reading_faults, is_V}
use Rattle.record.specs.Replies.{refusal_of}
use Rattle.sheet.specs.declared.Damage.{Damage}
use Rattle.sheet.specs.declared.Damage.TheVariants.{BadLine, BadRecord}

-- the note of a verdict record
abbrev pub note_of : Record → Note
note_of r = record { car = r.car; word = r.word; ticks = r.ticks }

-- what a piece of the input tells of: a note, or else what is damaged, which is nothing in a piece without a verdict
abbrev pub Found : Type 0
Found = Result Note (Option Damage)

-- A verdict record tells of its note, and any other of none.
abbrev pub OfRecord : Record → Option Note → Type 0
OfRecord r (Some n) = (is_V r.letter ≡ true) × (n ≡ note_of r)
OfRecord r None = is_V r.letter ≡ false

-- Bytes that are a record tell what it tells of; else the refusal stands.
abbrev pub RecordPiece : List ℕ → Found → Type 0
RecordPiece bytes (Ok n) = (first_fault (reading_faults bytes) ≡ None) × OfRecord (fields_at bytes) (Some n)
RecordPiece bytes (Err None) = (first_fault (reading_faults bytes) ≡ None) × OfRecord (fields_at bytes) None
RecordPiece bytes (Err (Some BadLine)) = ⊥
RecordPiece bytes (Err (Some (BadRecord e))) = first_fault (reading_faults bytes) ≡ Some (refusal_of e)

-- a number as it is written: decimal digits, after a plus sign or none
abbrev pub Number : ℕ → List ℕ → Type 0
Number n text = IsNumeral 10 (without_leading_plus text) × (n ≡ digits_value 10 (without_leading_plus text))

-- V, three texts, and a space before each
abbrev pub laid : List ℕ → List ℕ → List ℕ → List ℕ
laid a b d = 86 ∷ 32 ∷ (a ++ (32 ∷ (b ++ (32 ∷ d))))

-- a text with no space
abbrev pub Spaceless : List ℕ → Type 0
Spaceless s = (i : ℕ) → i < length s → slice_index s i ≢ 32

-- what follows V and a space, or none
abbrev pub AfterLetter : List ℕ → Option (Bor (List ℕ)) → Type 0
AfterLetter line (Some t) = line ≡ 86 ∷ 32 ∷ t.now
AfterLetter line None = (t : List ℕ) → line ≢ 86 ∷ 32 ∷ t

-- the three texts after V, of which the first two have no space, or none
abbrev pub Fields : List ℕ → Option (Bor (List ℕ) × Bor (List ℕ) × Bor (List ℕ)) → Type 0
Fields line (Some (a, b, d)) = (line ≡ laid a.now b.now d.now) × Spaceless a.now × Spaceless b.now
Fields line None = (a b d : List ℕ) → Spaceless a → Spaceless b → line ≢ laid a b d

-- the line of a note: V, car, word and length
pub record Line (n : Note) (line : List ℕ) : Type 0 where
  pub first : List ℕ
  pub second : List ℕ
  pub third : List ℕ
  pub laid_out : line ≡ laid first second third
  pub car_is : Number n.car.number first
  pub word_is : Number n.word second
  pub ticks_is : Number n.ticks third

-- a car is not 0, and car and word have 16 bits, the length 32
pub record Sound (n : Note) : Type 0 where
  pub some : 0 < n.car.number
  pub car_fits : n.car.number < 2 ^ 16
  pub word_fits : n.word < 2 ^ 16
  pub ticks_fit : n.ticks < 2 ^ 32

abbrev pub Told : List ℕ → Option Note → Type 0
Told line (Some n) = Line n line × Sound n
Told line None = (n : Note) → Sound n → Line n line → ⊥

-- an empty line, or one that begins with T, K or X
abbrev pub passed_over : List ℕ → Bool
passed_over [] = true
passed_over (b ∷ bs) = b == 84 || (b == 75 || b == 88)

-- A line that is not passed over tells of its note, or is damaged where it is no note's line.
abbrev pub LinePiece : List ℕ → Found → Type 0
LinePiece line (Ok n) = (passed_over line ≡ false) × Told line (Some n)
LinePiece line (Err None) = passed_over line ≡ true
LinePiece line (Err (Some BadLine)) = (passed_over line ≡ false) × Told line None
LinePiece line (Err (Some (BadRecord e))) = ⊥

-- a line without its line feed, if it ends in one
abbrev pub Unended : List ℕ → List ℕ → Type 0
Unended line text = (line ≡ text ++ (10 ∷ [])) ⊎ ((line ≡ text) × ((s : List ℕ) → line ≢ s ++ (10 ∷ [])))

-- a text up to its first line feed, and what comes after
pub record FirstLine (bytes line rest : List ℕ) : Type 0 where
  pub unbroken : (i : ℕ) → i < length line → slice_index line i ≢ 10
  pub cut : (bytes ≡ line ++ (10 ∷ rest)) ⊎ ((bytes ≡ line) × (rest ≡ []))

-- the pieces of a text, line by line
abbrev pub Lines : List ℕ → List Found → Type 0
Lines bytes [] = bytes ≡ []
Lines bytes (p ∷ ps) = (0 < length bytes) × ((line : List ℕ) × (rest : List ℕ) × FirstLine bytes line rest × LinePiece line p × Lines rest ps)

-- the pieces of records, twelve bytes by twelve, and fewer at the end
abbrev pub Records : List ℕ → List Found → Type 0
Records bytes [] = bytes ≡ []
Records bytes (p ∷ ps) = (0 < length bytes) × RecordPiece (take 12 bytes) p × Records (drop 12 bytes) ps

-- the second byte is zero
abbrev pub second_zero : List ℕ → Bool
second_zero [] = false
second_zero (a ∷ []) = false
second_zero (a ∷ b ∷ bytes) = b == 0

-- An input whose second byte is zero is records, and any other is text.
abbrev pub Pieces : List ℕ → List Found → Type 0
Pieces bytes ps = MatchBool (second_zero bytes) (Records bytes ps) (Lines bytes ps)

-- the note that a piece tells of
abbrev pub piece_note : Found → Option Note
piece_note (Ok n) = Some n
piece_note (Err e) = None

-- the notes that pieces tell of, in their order
abbrev pub all_notes : List Found → List Note
all_notes ps = filter_map piece_note ps
