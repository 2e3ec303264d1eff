-- How far a record is from being fed. Assumes nothing.
use Rattle.std.proofs.Common.{ℕ, ◌+◌, Some, None, Option}
use Rattle.record.specs.declared.Record.{Record}

abbrev pub ticks_left : Option Record → ℕ
ticks_left None = 0
ticks_left (Some r) = r.ticks + 1
