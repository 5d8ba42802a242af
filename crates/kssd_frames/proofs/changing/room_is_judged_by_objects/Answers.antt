use Rattle.kssd_frames.proofs.Changes.{keys_after, pages_after, values_merge, block_left}
use Rattle.kssd_frames.proofs.changing.room_is_judged_by_objects.Goals as goal

pub returns : goal.returns
returns c = record { keys = keys_after; pages = pages_after; values = values_merge; block = block_left }
