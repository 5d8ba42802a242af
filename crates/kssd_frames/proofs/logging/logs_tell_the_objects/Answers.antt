use Rattle.kssd_frames.proofs.Groups.{same_groups, one_more_group, log_stands, keys_of_whole}
use Rattle.kssd_frames.proofs.logging.logs_tell_the_objects.Goals as goal

pub returns : goal.returns
returns c = record { same = same_groups; more = one_more_group; stands = log_stands; keys = keys_of_whole }
