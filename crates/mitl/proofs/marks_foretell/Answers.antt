use Rattle.std.proofs.Common.{refl}
use Rattle.mitl.proofs.Blocks.{block_readings, outlook_after, looked_after}
use Rattle.mitl.proofs.Rules.{block_verdict}
use Rattle.mitl.proofs.marks_foretell.Goals as goal

pub returns : goal.returns
returns c = (refl, record { readings = block_readings; marks = outlook_after; memories = looked_after; verdicts = block_verdict })
