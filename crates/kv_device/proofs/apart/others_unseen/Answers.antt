use Rattle.kv_device.proofs.ApartLaws.{others_unseen}
use Rattle.kv_device.proofs.apart.others_unseen.Goals as goal

pub returns : goal.returns
returns c = others_unseen
