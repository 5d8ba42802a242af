use Rattle.kssd_frames.proofs.Changes.{after_is, each_change, change_count, moves_keep, changes_stay}
use Rattle.kssd_frames.proofs.changing.entries_are_changes.Goals as goal

pub returns : goal.returns
returns c = record { after = after_is; each = each_change; count = change_count; moves = moves_keep; stays = changes_stay }
