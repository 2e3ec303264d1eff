use Rattle.std.proofs.Common.{refl}
use Rattle.mitl.proofs.Causal.{read_append, verdict_append}
use Rattle.mitl.proofs.verdicts_stand.Goals as goal

pub returns : goal.returns
returns c = (refl, record { readings = read_append; verdicts = verdict_append })
