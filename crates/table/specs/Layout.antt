-- The bytes of a table: a head of eight, and sixteen for each row, numbered from 1. Assumes nothing.
use Rattle.std.specs.Prelude.{ℕ, ◌+◌, ◌-◌, ◌*◌, ◌&&◌, List, take, drop, ◌==◌, slice_index}
use Rattle.table.specs.declared.row.Fields.{Fields}

abbrev pub byte_at : List ℕ → ℕ → ℕ
byte_at s i = slice_index s i

-- four bytes from i on, the most significant first
abbrev pub four_at : List ℕ → ℕ → ℕ
four_at s i = byte_at s i * 16777216 + byte_at s (i + 1) * 65536 + byte_at s (i + 2) * 256 + byte_at s (i + 3)

-- the head: how many rows there are, and which is the first of the chain
abbrev pub rows_told : List ℕ → ℕ
rows_told t = byte_at t 4

abbrev pub first_told : List ℕ → ℕ
first_told t = byte_at t 5

-- where row r begins
abbrev pub row_start : ℕ → ℕ
row_start r = 8 + 16 * (r - 1)

abbrev pub row_bytes : List ℕ → ℕ → List ℕ
row_bytes t r = take 16 (drop (row_start r) t)

-- the fields of sixteen bytes
abbrev pub fields_from : List ℕ → Fields
fields_from s =
    record {
      letter = byte_at s 0;
      number = byte_at s 1;
      left = byte_at s 2;
      right = byte_at s 3;
      next = byte_at s 4;
      blank = byte_at s 5 == 0 && (byte_at s 6 == 0 && byte_at s 7 == 0);
      a = four_at s 8;
      b = four_at s 12;
    }

abbrev pub fields_of : List ℕ → ℕ → Fields
fields_of t r = fields_from (row_bytes t r)
