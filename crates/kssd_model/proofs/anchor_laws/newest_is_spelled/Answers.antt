use Rattle.kssd_model.proofs.NewestLaws.{newest_is_its}
use Rattle.kssd_model.proofs.anchor_laws.newest_is_spelled.Goals as goal

pub returns : goal.returns
returns c = newest_is_its
