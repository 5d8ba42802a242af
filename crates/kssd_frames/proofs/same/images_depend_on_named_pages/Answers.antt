use Rattle.kssd_frames.proofs.SameImages.{image_stays}
use Rattle.kssd_frames.proofs.same.images_depend_on_named_pages.Goals as goal

pub returns : goal.returns
returns c = image_stays
