use Rattle.std.proofs.Common.{◌≡◌, refl}
use Rattle.kfs_model.specs.Step.{effect}
use Rattle.kfs_laws.proofs.Outcomes.{settled_is}
use Rattle.kfs_laws.proofs.Quiet.{looking}
use Rattle.kfs_laws.proofs.looking_leaves_the_tree.Goals as goal

pub returns : goal.returns
returns c k d w call e = settled_is (λ v. v.tree ≡ w.tree) w (effect k d w call) refl (looking k d w call e)
