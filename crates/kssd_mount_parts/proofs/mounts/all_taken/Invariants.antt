use Rattle.kssd_mount_parts.specs.Small.{IsSmall}
use Rattle.kssd_mount_parts.proofs.mounts.all_taken.Given as goal

abbrev pub invariant-loop-step : goal.invariant-loop-step
invariant-loop-step g l = IsSmall l.index (g.N.Nand.flash l.nand) l.count
