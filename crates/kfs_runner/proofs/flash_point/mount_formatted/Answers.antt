use Rattle.kfs_runner.proofs.Unplanned.{mounts_but_for_memory}
use Rattle.kfs_runner.proofs.flash_point.mount_formatted.Goals as goal

pub mount_memory-requires : goal.mount_memory-requires
mount_memory-requires g c = mounts_but_for_memory (g.N.Nand.flash c.args.nand) _ c.in-Err.fault c.requires.unplanned c.requires.powered c.requires.sound c.in-Err.ensures.err
