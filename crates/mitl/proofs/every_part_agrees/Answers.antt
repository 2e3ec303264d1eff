use Rattle.std.proofs.Common.{refl}
use Rattle.mitl.proofs.Parts.{get_or-parts, length_parts}
use Rattle.mitl.proofs.Rows.{chained_scaled, read_parts, verdict_parts}
use Rattle.mitl.proofs.every_part_agrees.Goals as goal

pub returns : goal.returns
returns c = (refl, record { words = get_or-parts; whole = length_parts; chained = chained_scaled; readings = read_parts; verdicts = verdict_parts })
