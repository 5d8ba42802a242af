use Rattle.kfs_model.specs.Step.{effect}
use Rattle.kfs_laws.proofs.Sound.{sound, next_from, next_to}
use Rattle.kfs_laws.proofs.next_number_rises_by_one_at_most.Goals as goal

pub returns : goal.returns
returns c k d w call = (next_from w (effect k d w call) (sound k d w call), next_to w (effect k d w call) (sound k d w call))
