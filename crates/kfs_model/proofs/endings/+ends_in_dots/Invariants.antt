use Rattle.std.proofs.Common.{length}
use Rattle.kfs_model.proofs.endings.+ends_in_dots.Given as goal

abbrev pub decreases-ends_in_dots : goal.decreases-ends_in_dots
decreases-ends_in_dots l = length l.pieces.now
