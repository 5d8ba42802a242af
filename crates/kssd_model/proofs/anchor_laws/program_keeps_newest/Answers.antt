use Rattle.kssd_model.proofs.NewestLaws.{newest_left}
use Rattle.kssd_model.proofs.anchor_laws.program_keeps_newest.Goals as goal

pub returns : goal.returns
returns c = λ old new page a. newest_left old new page 64 a
