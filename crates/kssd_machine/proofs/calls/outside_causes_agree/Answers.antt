use Rattle.kssd_machine.proofs.Transacting.{deleting_fallen, setting_fallen, reading_fallen, ending_fallen}
use Rattle.kssd_machine.proofs.calls.outside_causes_agree.Goals as goal

pub returns : goal.returns
returns c = record { deleting = deleting_fallen; setting = setting_fallen; reading = reading_fallen; ending = ending_fallen }
