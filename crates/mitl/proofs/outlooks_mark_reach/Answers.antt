use Rattle.std.proofs.Common.{refl}
use Rattle.mitl.proofs.Outlook.{decides_outlook}
use Rattle.mitl.proofs.Marks.{row_window, row_marked, outlook_fresh, outlook_past}
use Rattle.mitl.proofs.outlooks_mark_reach.Goals as goal

pub returns : goal.returns
returns c = (refl, record { tested = decides_outlook; window = row_window; marked = row_marked; fresh = outlook_fresh; ends = outlook_past })
