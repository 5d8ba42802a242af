use Rattle.kssd_frames.proofs.SameImages.{index_stays}
use Rattle.kssd_frames.proofs.same.index_depends_on_its_pages.Goals as goal

pub returns : goal.returns
returns c = index_stays
