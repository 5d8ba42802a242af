use Rattle.kssd_levels.proofs.Staying.{levels_stay}
use Rattle.kssd_levels.proofs.laws.levels_stay.Goals as goal

pub returns : goal.returns
returns c = levels_stay
