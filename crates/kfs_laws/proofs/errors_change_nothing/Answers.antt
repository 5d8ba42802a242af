use Rattle.kfs_model.specs.Step.{effect}
use Rattle.kfs_laws.proofs.Sound.{sound, error_replies, error_keeps}
use Rattle.kfs_laws.proofs.errors_change_nothing.Goals as goal

pub returns : goal.returns
returns c k d w call e = (error_replies w (effect k d w call) e, error_keeps w (effect k d w call) e (sound k d w call))
