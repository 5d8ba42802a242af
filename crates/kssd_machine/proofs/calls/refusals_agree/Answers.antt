use Rattle.kssd_machine.proofs.Transacting.{first_is, full_is, delete_is, set_is, busy_is, aborting_refused, deleting_refused, setting_refused, reading_refused, ending_refused}
use Rattle.kssd_machine.proofs.calls.refusals_agree.Goals as goal

pub returns : goal.returns
returns c = record {
  first = first_is;
  full = full_is;
  delete = delete_is;
  set = set_is;
  busy = busy_is;
  aborting = aborting_refused;
  deleting = deleting_refused;
  setting = setting_refused;
  reading = reading_refused;
  ending = ending_refused;
}
