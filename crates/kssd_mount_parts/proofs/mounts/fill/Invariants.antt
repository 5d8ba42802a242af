use Rattle.std.proofs.Common.{◌*◌, ◌+◌}
use Rattle.kssd_mount_parts.specs.Small.{IsSmall}
use Rattle.kssd_mount_parts.proofs.mounts.fill.Given as goal

abbrev pub invariant-loop-number : goal.invariant-loop-number
invariant-loop-number g l = IsSmall l.index (g.N.Nand.flash l.nand) (2 * l.number + 2)
