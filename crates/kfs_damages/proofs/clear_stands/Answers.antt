use Rattle.kfs_damages.proofs.Clear.{clear_stands}
use Rattle.kfs_damages.proofs.clear_stands.Goals as goal

pub returns : goal.returns
returns c = clear_stands
