use Rattle.watch.proofs.Promised.{promise}
use Rattle.watch.proofs.Watch.made.Goals as goal

pub returns-clause-promise : goal.returns-clause-promise
returns-clause-promise g c = promise g.M.WindowMemory.meaning g.M.Admission.admitted
