use Rattle.kv_device.proofs.ApartLaws.{last_end_wins}
use Rattle.kv_device.proofs.apart.last_end_wins.Goals as goal

pub returns : goal.returns
returns c = last_end_wins
