-- The letters of rows, and which fields each uses. Assumes nothing.
use Rattle.std.specs.Prelude.{ℕ, Bool, true, false, cond, ◌&&◌, ◌||◌, Some, None, Option, ◌==◌, nat_lt}
use Rattle.table.specs.declared.row.Fields.{Fields}
use Rattle.table.specs.declared.row.Letter.{Letter}
use Rattle.table.specs.declared.row.Letter.TheVariants.{P, N, A, O, D, B, S, R}

abbrev pub letter_from : ℕ → Option Letter
letter_from c =
    cond (c == 80) (Some P)
    (cond (c == 78) (Some N)
    (cond (c == 65) (Some A)
    (cond (c == 79) (Some O)
    (cond (c == 68) (Some D)
    (cond (c == 66) (Some B)
    (cond (c == 83) (Some S)
    (cond (c == 82) (Some R) None)))))))

abbrev pub left_used : Letter → Bool
left_used P = false
left_used N = true
left_used A = true
left_used O = true
left_used D = true
left_used B = true
left_used S = true
left_used R = true

abbrev pub right_used : Letter → Bool
right_used P = false
right_used N = false
right_used A = true
right_used O = true
right_used D = false
right_used B = false
right_used S = true
right_used R = false

-- the timed rows use a and b
abbrev pub window_used : Letter → Bool
window_used P = false
window_used N = false
window_used A = false
window_used O = false
window_used D = true
window_used B = true
window_used S = true
window_used R = false

abbrev pub rule_letter : Letter → Bool
rule_letter P = false
rule_letter N = false
rule_letter A = false
rule_letter O = false
rule_letter D = false
rule_letter B = false
rule_letter S = false
rule_letter R = true

-- the number is below this: an unused one is zero
abbrev pub number_end_lem : Letter → ℕ
number_end_lem P = 32
number_end_lem N = 1
number_end_lem A = 1
number_end_lem O = 1
number_end_lem D = 1
number_end_lem B = 1
number_end_lem S = 1
number_end_lem R = 16

-- the number in its range, and each unused field and the zero bytes zero
abbrev pub well_filled_lem : Letter → Fields → Bool
well_filled_lem c f =
    nat_lt f.number (number_end_lem c)
    && ((left_used c || f.left == 0)
    && ((right_used c || f.right == 0)
    && ((window_used c || (f.a == 0 && f.b == 0))
    && f.blank)))
