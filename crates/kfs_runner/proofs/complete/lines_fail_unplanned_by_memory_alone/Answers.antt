use Rattle.kfs_runner.proofs.Completing.{lines_plain, mounts_plain}
use Rattle.kfs_runner.proofs.complete.lines_fail_unplanned_by_memory_alone.Goals as goal

pub returns-clause-lines : goal.returns-clause-lines
returns-clause-lines c = lines_plain

pub returns-clause-mounts : goal.returns-clause-mounts
returns-clause-mounts c = mounts_plain
