use Rattle.kfs_damages.proofs.One.{damaged_is_not_clear}
use Rattle.kfs_damages.proofs.damaged_is_not_clear.Goals as goal

pub returns : goal.returns
returns c = damaged_is_not_clear
