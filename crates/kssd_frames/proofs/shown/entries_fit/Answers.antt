use Rattle.kssd_frames.proofs.ShownLaws.{merged_fits, shown_fits}
use Rattle.kssd_frames.proofs.shown.entries_fit.Goals as goal

pub returns : goal.returns
returns c = λ image anchor has. (merged_fits image anchor has, shown_fits image anchor has)
