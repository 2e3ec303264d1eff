-- What is left to show for the laws of tables. Assumes nothing.
use Rattle.std.proofs.Common.{refl}
use Rattle.table.proofs.Laws.{tables_told, fit}
use Rattle.table.proofs.tables_hold.Goals as goal

pub returns : goal.returns
returns c = record { told = (refl, tables_told); fit = fit }
