use Rattle.kssd_image.proofs.Blank.{newest_alone}
use Rattle.kssd_image.proofs.worked.cut_anchor_is_none.Goals as goal

pub returns : goal.returns
returns c = newest_alone
