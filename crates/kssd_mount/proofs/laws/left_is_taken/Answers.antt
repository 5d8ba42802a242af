use Rattle.kssd_mount.proofs.Taking.{taken, left_taken}
use Rattle.kssd_mount.proofs.laws.left_is_taken.Goals as goal

pub returns : goal.returns
returns c = record { whole = taken; leaves = left_taken }
