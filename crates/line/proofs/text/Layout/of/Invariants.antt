-- The last numbers stand in the line, as many as were put, and there is room for the others. Assumes nothing.
use Rattle.std.proofs.Common.{◌≡◌, ◌+◌, ◌-◌, ◌*◌, ◌≤◌, length, drop}
use Rattle.line.specs.Lines.{numbers_line}
use Rattle.line.proofs.text.Layout.of.Given as goal

abbrev pub invariant-loop-number : goal.invariant-loop-number
invariant-loop-number l =
    (goal.iterator-loop-number).can_next l.number-iterator
    × (goal.iterator-loop-number).is_finite l.number-iterator
    × (64 ≤ l.line.start + 21 * length l.yielded)
    × (drop l.line.start l.line.bytes ≡ numbers_line (drop (length l.numbers - length l.yielded) l.numbers))
