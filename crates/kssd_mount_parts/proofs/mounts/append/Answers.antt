use Rattle.std.proofs.Common.{ap}
use Rattle.kv_nand.specs.Flash.{Flash}
use Rattle.kssd_mount_parts.proofs.Small.{room, appended}
use Rattle.kssd_mount_parts.proofs.mounts.append.Goals as goal

pub append-requires-clause-keys : goal.append-requires-clause-keys
append-requires-clause-keys g c = (room c.args.index.now (g.N.Nand.flash c.args.nand.now) c.args.steps c.args.group.now c.requires.small c.requires.few c.requires.size.1 c.requires.pages).0

pub append-requires-clause-pages : goal.append-requires-clause-pages
append-requires-clause-pages g c = (room c.args.index.now (g.N.Nand.flash c.args.nand.now) c.args.steps c.args.group.now c.requires.small c.requires.few c.requires.size.1 c.requires.pages).1

pub returns-in-Ok : goal.returns-in-Ok
returns-in-Ok g c =
    let h = c.in-Ok.ensures in
    appended c.args.index.now c.append.new.self (g.N.Nand.flash c.args.nand.now) (g.N.Nand.flash c.append.new.nand) c.args.steps c.args.group.now c.requires.small c.requires.size.1 c.requires.pages (ap (λ (f : Flash). f.blocks) h.works.after) h.kept h.shown h.stands h.aged h.ages
