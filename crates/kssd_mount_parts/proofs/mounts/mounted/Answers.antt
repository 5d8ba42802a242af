use Rattle.std.proofs.Common.{arith}
use Rattle.kssd_mount_parts.proofs.Small.{sound, still_taken, mounted}
use Rattle.kssd_mount_parts.proofs.mounts.mounted.Goals as goal

pub returns-then-from-clause-small : goal.returns-then-from-clause-small
returns-then-from-clause-small g c =
    let h = c.in-Ok.ensures in
    let keys = c.if-from.true in
    let old = g.N.Nand.flash c.args.nand.now in
    mounted c.in-Ok.mounted old (g.N.Nand.flash c.mount.new.nand) c.args.steps c.requires (h.leaves (sound old c.args.steps c.requires (omega (arith, c.ranges.steps.fits)))) h.stands c.if-mounted-eq0.true (omega (arith, keys, c.from.ensures, c.from-then-mounted-eq0.ensures)) h.age

pub returns-in-Err-clause-taken : goal.returns-in-Err-clause-taken
returns-in-Err-clause-taken g c = still_taken (g.N.Nand.flash c.args.nand.now) (g.N.Nand.flash c.mount.new.nand) c.args.steps c.requires (omega (arith, c.ranges.steps.fits)) c.in-Err.ensures.leaves
