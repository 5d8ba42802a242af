use Rattle.kssd_machine.proofs.Sizing.{keys_counted, pages_counted_after, keys_now, pages_now, keys_after, pages_after}
use Rattle.kssd_machine.proofs.ending.sizes_are_counted.Goals as goal

pub returns : goal.returns
returns c = record { keys = keys_counted; pages = pages_counted_after; keys_now = keys_now; pages_now = pages_now; keys_after = keys_after; pages_after = pages_after }
