use Rattle.kssd_model.proofs.NewestLaws.{newest_erased}
use Rattle.kssd_model.proofs.anchor_laws.erase_keeps_newest.Goals as goal

pub returns : goal.returns
returns c = λ old new block. newest_erased old new block 64
