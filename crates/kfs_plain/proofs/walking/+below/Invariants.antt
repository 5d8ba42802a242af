use Rattle.std.proofs.Common.{length}
use Rattle.kfs_plain.proofs.walking.+below.Given as goal

abbrev pub decreases-below : goal.decreases-below
decreases-below l = length l.place.now
