use Rattle.kfs_laws.proofs.Plans.{plainly}
use Rattle.kfs_laws.proofs.nothing_fails_unplanned.Goals as goal

pub returns : goal.returns
returns c = plainly
