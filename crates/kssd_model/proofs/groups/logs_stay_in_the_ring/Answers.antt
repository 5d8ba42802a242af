use Rattle.kssd_model.proofs.GroupsWalks.{log_in_same}
use Rattle.kssd_model.proofs.groups.logs_stay_in_the_ring.Goals as goal

pub returns : goal.returns
returns c = log_in_same
