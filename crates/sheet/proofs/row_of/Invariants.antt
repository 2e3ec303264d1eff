use Rattle.std.proofs.Common.{◌≡◌, ℕ, ◌<◌, length, get_or}
use Rattle.share.specs.Ticks.{figure}
use Rattle.sheet.proofs.row_of.Given as goal

abbrev pub invariant-loop-rule : goal.invariant-loop-rule
invariant-loop-rule l = (length l.share-items ≡ 16) × ((i : ℕ) → i < l.rule → get_or l.share-items i 0 ≡ figure l.notes l.car i)
