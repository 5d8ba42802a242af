use Rattle.kssd_engine.proofs.Space as space
use Rattle.kssd_engine.proofs.laws.space_is_left.Goals as goal

pub returns : goal.returns
returns c = space.space_is_left
