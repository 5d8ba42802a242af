use Rattle.kssd_machine.proofs.Falling.{reading, working, ending}
use Rattle.kssd_machine.proofs.machines.faults_agree.Goals as goal

pub returns : goal.returns
returns c = record { reading = reading; working = working; ending = ending }
