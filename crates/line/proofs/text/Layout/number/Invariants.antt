-- The digits that are left to be put, and then what stands there, are the number and then what stood there. Assumes nothing.
use Rattle.std.proofs.Common.{◌≡◌, ◌+◌, ◌^◌, ◌<◌, ◌≤◌, ◌++◌, length, drop, decimal}
use Rattle.line.proofs.text.Layout.number.Given as goal

abbrev pub invariant-loop-left : goal.invariant-loop-left
invariant-loop-left l =
    (l.left < 2 ^ 64) × (length (decimal l.left) < l.at) × (l.at ≤ 65)
    × (l.initial.self.start + length (decimal l.left) ≤ l.at + 20)
    × (decimal l.left ++ drop l.at l.self.bytes ≡ decimal l.number ++ drop l.initial.self.start l.initial.self.bytes)

abbrev pub decreases-loop-left : goal.decreases-loop-left
decreases-loop-left l = l.left
