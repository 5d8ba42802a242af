use Rattle.kssd_model.proofs.GroupsPlace.{may_program_end}
use Rattle.kssd_model.proofs.groups.logs_go_on.Goals as goal

pub returns : goal.returns
returns c = may_program_end
