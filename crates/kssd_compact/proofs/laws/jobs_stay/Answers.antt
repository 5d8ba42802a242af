use Rattle.kssd_compact.proofs.Jobs.{jobs_stay}
use Rattle.kssd_compact.proofs.laws.jobs_stay.Goals as goal

pub returns : goal.returns
returns c = jobs_stay
