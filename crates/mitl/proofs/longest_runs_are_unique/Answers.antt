use Rattle.std.proofs.Common.{refl}
use Rattle.mitl.proofs.Runs.{runs_cut, one_cut, ticks_runs, first_cut, rest_cut}
use Rattle.mitl.proofs.longest_runs_are_unique.Goals as goal

pub returns : goal.returns
returns c = (refl, record { cut = runs_cut; only = one_cut; covers = ticks_runs; first = first_cut; rest = rest_cut })
