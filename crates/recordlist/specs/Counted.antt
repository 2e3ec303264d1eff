-- How the pieces of the input are counted. Assumes nothing.
use Rattle.std.specs.Prelude.{◌≡◌, ℕ, ◌+◌, ◌-◌, ◌^◌, min, Bool, true, false, List, is_some}
use Rattle.refusal.specs.Faults.{first_fault}
use Rattle.record.specs.Layout.{reading_faults}
use Rattle.recordlist.specs.declared.Tally.{Tally}

-- one more, as far as a count goes
abbrev pub more : ℕ → ℕ
more n = min (n + 1) (2 ^ 64 - 1)

abbrev pub one_more : Tally → Bool → Tally
one_more t true = record { accepted = t.accepted; refused = more t.refused }
one_more t false = record { accepted = more t.accepted; refused = t.refused }

-- A piece is counted as refused exactly if it has a fault.
abbrev pub Counted : List ℕ → Tally → Tally → Type 0
Counted bytes old new = new ≡ one_more old (is_some (first_fault (reading_faults bytes)))
