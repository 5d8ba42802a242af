use Rattle.kssd_model.proofs.AnchorAgain.{reads_spelled, spelled_reads}
use Rattle.kssd_model.proofs.anchor_laws.anchors_are_spelled.Goals as goal

pub returns : goal.returns
returns c = λ bytes a. (reads_spelled bytes a, spelled_reads bytes a)
