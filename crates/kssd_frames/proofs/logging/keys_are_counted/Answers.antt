use Rattle.kssd_frames.proofs.Groups.{keys_are_entries, first_keys}
use Rattle.kssd_frames.proofs.logging.keys_are_counted.Goals as goal

pub returns : goal.returns
returns c = record { entries = keys_are_entries; first = first_keys }
