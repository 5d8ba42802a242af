use Rattle.kfs_model.specs.Step.{effect}
use Rattle.kfs_laws.proofs.Quiet.{quiet, settled_quiet}
use Rattle.kfs_laws.proofs.no_change_leaves_the_tree.Goals as goal

pub returns : goal.returns
returns c k d w call tree files = settled_quiet k d w tree files call (effect k d w call) (quiet k d w tree files call)
