use Rattle.kssd_compact.proofs.Jobs.{jobs_finish}
use Rattle.kssd_compact.proofs.laws.jobs_finish.Goals as goal

pub returns : goal.returns
returns c = jobs_finish
