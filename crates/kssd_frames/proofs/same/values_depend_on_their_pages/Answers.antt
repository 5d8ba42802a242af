use Rattle.kssd_frames.proofs.SameImages.{objects_alike, values_stay}
use Rattle.kssd_frames.proofs.same.values_depend_on_their_pages.Goals as goal

pub returns : goal.returns
returns c = record { objects = objects_alike; whole = values_stay }
