use Rattle.std.proofs.Common.{refl}
use Rattle.mitl.proofs.Rules.{verdict_small, verdict_bits, known_by_bits, verdict_only, verdict_ruled, verdict_bare}
use Rattle.mitl.proofs.words_hold_rules.Goals as goal

pub returns : goal.returns
returns c = (refl, record { small = verdict_small; bits = verdict_bits; known = known_by_bits; only = verdict_only; ruled = verdict_ruled; bare = verdict_bare })
