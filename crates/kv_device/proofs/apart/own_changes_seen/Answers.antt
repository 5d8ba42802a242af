use Rattle.kv_device.proofs.ApartLaws.{own_changes_seen}
use Rattle.kv_device.proofs.apart.own_changes_seen.Goals as goal

pub returns : goal.returns
returns c = own_changes_seen
