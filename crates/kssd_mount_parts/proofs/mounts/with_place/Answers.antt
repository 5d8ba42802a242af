use Rattle.std.proofs.Common.{ap}
use Rattle.kv_nand.specs.Flash.{Flash}
use Rattle.kssd_mount_parts.proofs.Small.{placed}
use Rattle.kssd_mount_parts.proofs.mounts.with_place.Goals as goal

pub returns-in-Ok-clause-small : goal.returns-in-Ok-clause-small
returns-in-Ok-clause-small g c =
    let h = c.in-Ok.ensures in
    placed c.args.index.now c.make_place.new.self (g.N.Nand.flash c.args.nand.now) (g.N.Nand.flash c.make_place.new.nand) c.args.steps c.requires.small (ap (λ (f : Flash). f.blocks) h.works.after) h.kept h.stands h.aged h.ages
