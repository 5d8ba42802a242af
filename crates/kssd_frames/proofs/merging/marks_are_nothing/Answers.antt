use Rattle.kssd_frames.proofs.Lookups.{find_unmarked, rising_unmarked, marks_below}
use Rattle.kssd_frames.proofs.merging.marks_are_nothing.Goals as goal

pub returns : goal.returns
returns c = record { found = find_unmarked; rising = rising_unmarked; below = marks_below }
