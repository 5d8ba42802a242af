use Rattle.kfs_damages.proofs.One.{one_damage}
use Rattle.kfs_damages.proofs.one_damage.Goals as goal

pub returns : goal.returns
returns c = one_damage
