use Rattle.kfs_script.proofs.LineLaws.{spelled_again}
use Rattle.kfs_script.proofs.spelled_lines_are_read.Goals as goal

pub returns : goal.returns
returns c = spelled_again
