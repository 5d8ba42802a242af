use Rattle.kssd_compact.proofs.Installable.{runs_may_be_installed}
use Rattle.kssd_compact.proofs.laws.runs_may_be_installed.Goals as goal

pub returns : goal.returns
returns c = runs_may_be_installed
