-- What marks kept as the bits of words mean. Assumes nothing.
use Rattle.std.specs.Prelude.{ℕ, ◌*◌, ◌/◌, ◌%◌, Bool, cond, not, ◌&&◌, List, length, nat_le, slice_index}
use Rattle.mitl.specs.Windows.{sound_window, all_below}
use Rattle.mitl.specs.Formulas.{bit}
use Rattle.mitl.specs.Memory.{Meaning, new_memory}
use Rattle.bit_marks.specs.declared.BitMarks.{BitMarks}

-- The limit: there are at most 1000 marks.
abbrev pub served : ℕ → ℕ → Bool
served a b = sound_window a b && nat_le b 1000

-- Mark d is bit d % 64 of word d / 64, bit 0 being the least; beyond the words every mark is no.
abbrev pub marked : List ℕ → ℕ → Bool
marked ws d = bit (d % 64) (slice_index ws (d / 64))

-- no bit of the words is set from b on
unfoldable pub ends_by : ℕ → List ℕ → Bool
ends_by b ws = all_below (λ d. not (nat_le b d && marked ws d)) (64 * length ws)

-- content that this kind makes
abbrev pub sound : BitMarks → Bool
sound m = served m.a m.b && ends_by m.b m.marks.words

abbrev pub told : BitMarks → Meaning
told m = record { a = m.a; b = m.b; mark = marked m.marks.words }

-- content that this kind never makes means a new memory
abbrev pub meaning_of : BitMarks → Meaning
meaning_of m = cond (sound m) (told m) new_memory
