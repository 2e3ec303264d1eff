-- What a window memory means, and what each of its functions makes of that. Assumes nothing.
use Rattle.std.specs.Prelude.{◌≡◌, ℕ, zero, suc, ◌+◌, ◌-◌, ◌/◌, ◌<◌, Bool, false, cond, not, ◌&&◌, ◌||◌, Some, None, Option, nat_le}
use Rattle.mitl.specs.Windows.{some_below}

-- A window from a to b, and its outlook: mark d tells whether the tick d ahead, 0 being the next, is already
-- within reach of a yes taken earlier. There are b marks; from b on mark d is no.
pub record Meaning : Type 0 where
  pub a : ℕ
  pub b : ℕ
  pub mark : ℕ → Bool

-- the window from a to b with all marks no
abbrev pub clean : ℕ → ℕ → Meaning
clean a b = record { a = a; b = b; mark = λ _. false }

-- a new memory: the window 0 to 1, and its one mark no
abbrev pub new_memory : Meaning
new_memory = clean 0 1

-- all marks no; the window stays
abbrev pub cleared : Meaning → Meaning
cleared m = clean m.a m.b

-- a ≤ d + j ≤ b for some j from 1 to n
abbrev pub meets : ℕ → ℕ → ℕ → ℕ → Bool
meets a b n d = some_below (λ i. nat_le a (d + suc i) && nat_le (d + suc i) b) n

-- the marks after n ticks at which the operand is v
abbrev pub taken : ℕ → ℕ → Bool → ℕ → (ℕ → Bool) → ℕ → Bool
taken a b v n mark d = mark (d + n) || (v && meets a b n d)

abbrev pub took : Bool → ℕ → Meaning → Meaning
took v n m = record { a = m.a; b = m.b; mark = taken m.a m.b v n m.mark }

-- the verdict d ticks ahead, if the operand stays v from now on
abbrev pub ahead : ℕ → Bool → (ℕ → Bool) → ℕ → Bool
ahead a v mark d = mark d || (v && nat_le a d)

-- f is r for the first n numbers and another at n; or r for ever
abbrev pub Lasts : (ℕ → Bool) → Bool → Option ℕ → Type 0
Lasts f r None = (d : ℕ) → f d ≡ r
Lasts f r (Some n) = (0 < n) × ((d : ℕ) → d < n → f d ≡ r) × (f n ≡ not r)

-- The unbroken stretches of yes among the first n marks: one for each mark that is yes and whose follower is no.
abbrev pub stretches : (ℕ → Bool) → ℕ → ℕ
stretches mark zero = 0
stretches mark (suc n) = cond (mark n && not (mark (suc n))) 1 0 + stretches mark n

abbrev pub counted : Meaning → ℕ
counted m = stretches m.mark m.b

-- the most stretches that an outlook of the window from a to b has
abbrev pub most_stretches_lem : ℕ → ℕ → ℕ
most_stretches_lem a b = 1 + (b - 1) / (b - a + 2)
