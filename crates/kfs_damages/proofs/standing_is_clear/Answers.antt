use Rattle.kfs_damages.proofs.Standing.{standing_is_clear}
use Rattle.kfs_damages.proofs.standing_is_clear.Goals as goal

pub returns : goal.returns
returns c = standing_is_clear
