use Rattle.kssd_model.proofs.RisingEntries.{is_rising-merged}
use Rattle.kssd_frames.proofs.Lookups.{merge_three, merge_over, merge_more, merge_alone, found_over}
use Rattle.kssd_frames.proofs.merging.merging_is_associative.Goals as goal

pub returns : goal.returns
returns c = record { three = merge_three; over = merge_over; more = merge_more; alone = merge_alone; found = found_over; rising = is_rising-merged }
