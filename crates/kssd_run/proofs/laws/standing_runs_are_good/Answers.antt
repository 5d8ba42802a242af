use Rattle.kssd_run.proofs.Staying.{standing_runs_are_good}
use Rattle.kssd_run.proofs.laws.standing_runs_are_good.Goals as goal

pub returns : goal.returns
returns c = standing_runs_are_good
