use Rattle.kssd_frames.proofs.SparePages.{old_anchor_stays, given_anchor}
use Rattle.kssd_frames.proofs.anchoring.anchors_take_over.Goals as goal

pub returns : goal.returns
returns c = record { old_newest = old_anchor_stays; given = given_anchor }
