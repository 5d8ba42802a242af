use Rattle.kfs_runner.proofs.Completing.{complete}
use Rattle.kfs_runner.proofs.complete.each_end_is_complete.Goals as goal

pub returns : goal.returns
returns c = complete
