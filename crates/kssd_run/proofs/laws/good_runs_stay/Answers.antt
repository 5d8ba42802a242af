use Rattle.kssd_run.proofs.Staying.{good_runs_stay}
use Rattle.kssd_run.proofs.laws.good_runs_stay.Goals as goal

pub returns : goal.returns
returns c = good_runs_stay
