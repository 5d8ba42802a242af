use Rattle.kfs_laws.proofs.Keeping.{swept_tree, swept_kept}
use Rattle.kfs_laws.proofs.swept_is_a_tree.Goals as goal

pub returns : goal.returns
returns c w tree = (swept_tree w tree, swept_kept w tree)
