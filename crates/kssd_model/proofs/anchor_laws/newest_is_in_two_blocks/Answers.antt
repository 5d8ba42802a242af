use Rattle.kssd_model.proofs.NewestLaws.{newest_same}
use Rattle.kssd_model.proofs.anchor_laws.newest_is_in_two_blocks.Goals as goal

pub returns : goal.returns
returns c = λ old new. newest_same old new 64
