use Rattle.kssd_frames.proofs.Groups.{log_facts, log_is_whole, groups_over}
use Rattle.kssd_frames.proofs.logging.logs_are_maps.Goals as goal

pub returns : goal.returns
returns c = record { is = log_facts; whole = log_is_whole; over = groups_over }
