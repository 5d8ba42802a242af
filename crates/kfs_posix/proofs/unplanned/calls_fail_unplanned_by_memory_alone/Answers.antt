use Rattle.kfs_posix.proofs.Unstruck.{calls_plain}
use Rattle.kfs_posix.proofs.unplanned.calls_fail_unplanned_by_memory_alone.Goals as goal

pub returns : goal.returns
returns c = calls_plain
