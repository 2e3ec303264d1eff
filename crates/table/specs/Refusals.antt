-- Each fault's number and place. Assumes nothing.
use Rattle.refusal.specs.Faults.{refusal}
use Rattle.refusal.specs.declared.Refusal.{Refusal}
use Rattle.table.specs.declared.fault.RowFault.{RowFault}
use Rattle.table.specs.declared.fault.RowFault.TheVariants.{Letter, Field, Operand, Window, Used, Limit, Next}
use Rattle.table.specs.declared.fault.TableFault.{TableFault}
use Rattle.table.specs.declared.fault.TableFault.TheVariants.{Length, Mark, Head, Row, NoRule}

abbrev pub of_row : RowFault → Refusal
of_row (Letter r) = refusal 4 r
of_row (Field r) = refusal 5 r
of_row (Operand r) = refusal 6 r
of_row (Window r) = refusal 7 r
of_row (Used r) = refusal 8 r
of_row (Limit r) = refusal 9 r
of_row (Next r) = refusal 10 r

abbrev pub of_table : TableFault → Refusal
of_table Length = refusal 1 0
of_table Mark = refusal 2 0
of_table Head = refusal 3 0
of_table (Row f) = of_row f
of_table NoRule = refusal 11 0
