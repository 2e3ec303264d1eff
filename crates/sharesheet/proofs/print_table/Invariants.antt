use Rattle.std.proofs.Common.{◌-◌}
use Rattle.sharesheet.proofs.print_table.Given as goal

abbrev pub decreases-loop-car : goal.decreases-loop-car
decreases-loop-car l = 65536 - l.above
