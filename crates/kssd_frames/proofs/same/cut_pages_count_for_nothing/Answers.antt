use Rattle.kssd_frames.proofs.SameImages.{cut_counts_for_nothing}
use Rattle.kssd_frames.proofs.same.cut_pages_count_for_nothing.Goals as goal

pub returns : goal.returns
returns c = cut_counts_for_nothing
