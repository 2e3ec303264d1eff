use Rattle.watch.proofs.Promised.{both_ends}
use Rattle.watch.proofs.agree.Goals as goal

pub returns-clause-promise : goal.returns-clause-promise
returns-clause-promise g c = both_ends g.M.WindowMemory.meaning g.M.Admission.admitted g.N.WindowMemory.meaning g.N.Admission.admitted
