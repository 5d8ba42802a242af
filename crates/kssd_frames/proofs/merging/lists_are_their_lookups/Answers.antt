use Rattle.kssd_frames.proofs.Lookups.{same_lists}
use Rattle.kssd_frames.proofs.merging.lists_are_their_lookups.Goals as goal

pub returns : goal.returns
returns c = same_lists
