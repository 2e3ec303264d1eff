-- Episodes of a window's operand: what they reach, and how they age. Assumes nothing.
use Rattle.std.specs.Prelude.{ℕ, ◌+◌, ◌-◌, min, Bool, true, false, cond, ◌&&◌, ◌||◌, List, [], ◌∷◌, ◌++◌, take, drop, ◌==◌, nat_le, nat_lt}
use Rattle.mitl.specs.Memory.{most_stretches_lem}
use Rattle.mitl.specs.Windows.{sound_window}
use Rattle.clock_pairs.specs.declared.Episode.{Episode}

-- The windows served: those that a table may have, if their outlooks have at most 32 stretches.
abbrev pub served : ℕ → ℕ → Bool
served a b = sound_window a b && nat_le (most_stretches_lem a b) 32

abbrev pub episode : ℕ → ℕ → Episode
episode r f = record { rise = r; fall = f }

-- some tick of the episode is a to b ticks before the tick d ahead
abbrev pub covers : ℕ → ℕ → Episode → ℕ → Bool
covers a b e d = nat_le a (d + e.rise) && nat_lt (d + e.fall) b

-- some episode covers the tick d ahead
abbrev pub reached : ℕ → ℕ → List Episode → ℕ → Bool
reached a b [] d = false
reached a b (e ∷ es) d = covers a b e d || reached a b es d

-- Episodes that this kind makes, newest first: the newest fell `low` ticks ago or earlier, each rose before it fell
-- and at most b ticks ago, and every gap is longer than b - a ticks.
abbrev pub apart : ℕ → ℕ → ℕ → List Episode → Bool
apart a b low [] = true
apart a b low (e ∷ es) = nat_le low e.fall && (nat_lt e.fall e.rise && (nat_le e.rise b && apart a b (e.rise + (b - a) + 1) es))

-- n ticks on; an age that has reached b stays at b
abbrev pub older : ℕ → ℕ → Episode → Episode
older b n e = episode (min b (e.rise + n)) (min b (e.fall + n))

-- n ticks on, without those whose fall is then b ticks old
abbrev pub lasting : ℕ → ℕ → List Episode → List Episode
lasting b n [] = []
lasting b n (e ∷ es) = cond (nat_lt (e.fall + n) b) (older b n e ∷ lasting b n es) (lasting b n es)

-- the episodes before this place as they are, the others n ticks on
abbrev pub aged : ℕ → ℕ → ℕ → List Episode → List Episode
aged b n from es = take from es ++ lasting b n (drop from es)

-- empty places
abbrev pub vacant : List Episode → Bool
vacant [] = true
vacant (e ∷ es) = (e.rise == 0 && e.fall == 0) && vacant es
