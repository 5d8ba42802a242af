use Rattle.kssd_model.proofs.GroupsWalks.{groups_in_log, path_counts}
use Rattle.kssd_model.proofs.groups.groups_are_those_of_the_log.Goals as goal

pub returns : goal.returns
returns c = record { groups = groups_in_log; numbers = path_counts }
