use Rattle.kssd_machine.proofs.Transacting.{changes_are, open_is, free_is, counts_agree, begins, aborts, change_is, deletes, sets_inline, sets_page, rising_with, rising_begun, rising_closed}
use Rattle.kssd_machine.proofs.calls.transactions_agree.Goals as goal

pub returns : goal.returns
returns c = record {
  changes = changes_are;
  is_open = open_is;
  free = free_is;
  count = counts_agree;
  begin = begins;
  abort = aborts;
  change = change_is;
  delete = deletes;
  set_inline = sets_inline;
  set_page = sets_page;
  rising = rising_with;
  rising_begun = rising_begun;
  rising_closed = rising_closed;
}
