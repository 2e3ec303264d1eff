-- What building a plan replies. Names Plan. Assumes nothing.
use Rattle.std.specs.Prelude.{◌≡◌, ℕ, true, false, List, Some, None, Option}
use Rattle.mitl.specs.declared.Row.{Row}
use Rattle.plan.specs.declared.plan.Plan.{Plan}
use Rattle.plan.specs.Sound.{sound_rows}

-- sound rows become the plan that holds them, and others none
abbrev pub Built : List Row → List ℕ → ℕ → Option Plan → Type 0
Built rows numbers count (Some p) =
    (sound_rows rows count ≡ true) × (p.rows ≡ rows) × (p.numbers ≡ numbers) × (p.count ≡ count)
Built rows numbers count None = sound_rows rows count ≡ false
