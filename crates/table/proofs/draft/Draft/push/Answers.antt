-- What is left to show for one more row of a draft. Assumes nothing.
use Rattle.std.proofs.Common.{◌≡◌, ℕ, ◌+◌, ◌-◌, List, drop, set, replicate, arith}
use Rattle.std.proofs.lemmas.Grind.{common_steps}
use Rattle.std.proofs.lemmas.List.{drop-set-lt, drop-drop, drop-replicate}
use Rattle.mitl.specs.declared.Row.TheVariants.{Input}
use Rattle.table.proofs.draft.Draft.push.Goals as goal

-- one more is written, and what follows stays
idle_more : {X : Type 0} (xs : List X) (n : ℕ) (x d : X) → drop n xs ≡ replicate (64 - n) d → drop (n + 1) (set xs n x) ≡ replicate (64 - (n + 1)) d
idle_more xs n x d e = grind (arith, common_steps, drop-set-lt (n + 1) xs n x, drop-drop 1 n xs, drop-replicate 1 (64 - n) d)

pub invariant_of-self : goal.invariant_of-self
invariant_of-self c =
    let d = c.args.self.now in
    record {
      few = omega arith;
      idle_rows = idle_more d.rows d.count c.args.row (Input 0) d.idle_rows;
      idle_numbers = idle_more d.numbers d.count c.args.number 0 d.idle_numbers;
    }
