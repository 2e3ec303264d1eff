-- What a memory of clock pairs means. Assumes nothing.
use Rattle.std.specs.Prelude.{ℕ, ◌-◌, Bool, cond, ◌&&◌, List, ◌++◌, length, take, drop, replicate, nat_le, nat_lt, slice_index_or}
use Rattle.mitl.specs.Memory.{Meaning, new_memory}
use Rattle.clock_pairs.specs.declared.Episode.{Episode}
use Rattle.clock_pairs.specs.declared.ClockPairs.{ClockPairs}
use Rattle.clock_pairs.specs.Episodes.{served, episode, reached, apart, vacant}

-- its episodes, newest first
abbrev pub held : ClockPairs → List Episode
held c = take c.len c.episodes

-- Content that this kind makes: a served window, episodes that are apart, and zeros behind them.
abbrev pub sound : ClockPairs → Bool
sound c = served c.a c.b && (nat_le c.len 32 && (apart c.a c.b 0 (held c) && vacant (drop c.len c.episodes)))

-- the window from a to b with the marks of these episodes
abbrev pub told : ℕ → ℕ → List Episode → Meaning
told a b es = record { a = a; b = b; mark = reached a b es }

-- content that this kind never makes means a new memory
abbrev pub meaning_of : ClockPairs → Meaning
meaning_of c = cond (sound c) (told c.a c.b (held c)) new_memory

-- the content that holds these episodes, newest first
abbrev pub holding : ℕ → ℕ → List Episode → ClockPairs
holding a b es = record { a = a; b = b; len = length es; episodes = es ++ replicate (32 - length es) (episode 0 0) }

-- there is an episode, and the newest fell at most b - a ticks ago
abbrev pub goes_on : ClockPairs → Bool
goes_on c = nat_lt 0 c.len && nat_le (slice_index_or c.episodes 0 (episode 0 0)).fall (c.b - c.a)
