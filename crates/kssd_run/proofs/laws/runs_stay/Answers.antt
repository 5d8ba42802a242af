use Rattle.kssd_run.proofs.Staying.{run_stays}
use Rattle.kssd_run.proofs.laws.runs_stay.Goals as goal

pub returns : goal.returns
returns c = run_stays
