-- The text of a refusal. Assumes nothing.
use Rattle.std.specs.Prelude.{ℕ, List, ◌∷◌, ◌++◌, decimal}
use Rattle.refusal.specs.declared.Refusal.{Refusal}

-- number and place, with a space between them
abbrev pub refusal_text : Refusal → List ℕ
refusal_text r = decimal r.number ++ (32 ∷ decimal r.place)
