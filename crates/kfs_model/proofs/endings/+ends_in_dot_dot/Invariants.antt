use Rattle.std.proofs.Common.{length}
use Rattle.kfs_model.proofs.endings.+ends_in_dot_dot.Given as goal

abbrev pub decreases-ends_in_dot_dot : goal.decreases-ends_in_dot_dot
decreases-ends_in_dot_dot l = length l.pieces.now
