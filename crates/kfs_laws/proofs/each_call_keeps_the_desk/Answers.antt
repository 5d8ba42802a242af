use Rattle.kfs_model.specs.Step.{effect}
use Rattle.kfs_laws.specs.Worlds.{IsDesk}
use Rattle.kfs_laws.proofs.Outcomes.{settled_is}
use Rattle.kfs_laws.proofs.Desks.{empty_is, desks}
use Rattle.kfs_laws.proofs.each_call_keeps_the_desk.Goals as goal

pub returns : goal.returns
returns c = (empty_is, λ k d w call free is. settled_is (λ v. IsDesk v.desk) w (effect k d w call) is (desks k d w free is call))
