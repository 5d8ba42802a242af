use Rattle.kssd_frames.proofs.ShownLaws.{objects_entries, objects_get, objects_len}
use Rattle.kssd_frames.proofs.shown.objects_are_shown.Goals as goal

pub returns : goal.returns
returns c = record { entries = objects_entries; get = objects_get; count = objects_len }
