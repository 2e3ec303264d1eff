-- Ticks, windows over them, and which windows a table may have. Assumes nothing.
use Rattle.std.specs.Prelude.{ℕ, zero, suc, ◌+◌, ◌≤◌, Bool, true, false, ◌&&◌, ◌||◌, nat_le, nat_lt}

-- u lies in the window from a to b behind tick t: t - b ≤ u ≤ t - a
abbrev pub Window : ℕ → ℕ → ℕ → ℕ → Type 0
Window a b t u = (t ≤ u + b) × (u + a ≤ t)

abbrev pub window : ℕ → ℕ → ℕ → ℕ → Bool
window a b t u = nat_le t (u + b) && nat_le (u + a) t

-- p holds of some number below n, of each number below n
abbrev pub some_below : (ℕ → Bool) → ℕ → Bool
some_below p zero = false
some_below p (suc n) = p n || some_below p n

abbrev pub all_below : (ℕ → Bool) → ℕ → Bool
all_below p zero = true
all_below p (suc n) = p n && all_below p n

-- A window that a table may have: a below b, and b at most a day of ticks.
abbrev pub sound_window : ℕ → ℕ → Bool
sound_window a b = nat_lt a b && nat_le b 864000
