-- The refusals of Set. Assumes nothing.
use Rattle.refusal.specs.declared.Refusal.{Refusal}
use Rattle.refusal.specs.Faults.{refusal}
use Rattle.table.specs.Refusals.{of_table}
use Rattle.cars.specs.Refusals.{of_list}
use Rattle.watch.specs.declared.fault.SetFault.{SetFault}
use Rattle.watch.specs.declared.fault.SetFault.TheVariants.{Table, List, Memories}

-- each case's number and place: a table's fault keeps its own, and so does a car list's
abbrev pub of_set : SetFault → Refusal
of_set (Table f) = of_table f
of_set (List f) = of_list f
of_set Memories = refusal 13 0
