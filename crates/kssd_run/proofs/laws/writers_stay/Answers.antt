use Rattle.kssd_run.proofs.Staying.{writes_stay}
use Rattle.kssd_run.proofs.laws.writers_stay.Goals as goal

pub returns : goal.returns
returns c = writes_stay
