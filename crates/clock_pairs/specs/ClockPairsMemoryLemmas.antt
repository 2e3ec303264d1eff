use Rattle.std.specs.Prelude.{◌≡◌, ℕ, ◌≤◌, Bool, true, false, cond, List, refl}
use Rattle.mitl.specs.Memory.{new_memory}
use Rattle.clock_pairs.specs.declared.Episode.{Episode}
use Rattle.clock_pairs.specs.Meanings.{told}
use Rattle.clock_pairs.specs.Reach.{reached_past}

pub past : (t : Bool) (a b d : ℕ) (es : List Episode) → (cond t (told a b es) new_memory).b ≤ d → (cond t (told a b es) new_memory).mark d ≡ false
past true a b d es le = reached_past a b d le es
past false a b d es le = refl
