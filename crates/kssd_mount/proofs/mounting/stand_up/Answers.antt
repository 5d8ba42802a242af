use Rattle.kssd_root.proofs.Logs.{has_bytes}
use Rattle.kssd_mount.proofs.Numbers.{far_from_end}
use Rattle.kssd_mount.proofs.Settling.{index_parts, parts_fit, stands}
use Rattle.kssd_mount.proofs.mounting.stand_up.Goals as goal

pub index_of-requires-clause-parts : goal.index_of-requires-clause-parts
index_of-requires-clause-parts g c =
    let old = g.N.Nand.flash c.args.nand.now in
    index_parts old.blocks old.image c.args.parts c.requires.parts

pub index_of-requires-clause-fit : goal.index_of-requires-clause-fit
index_of-requires-clause-fit g c =
    let old = g.N.Nand.flash c.args.nand.now in
    parts_fit old.blocks old.image c.args.parts c.requires.parts

pub index_of-requires-clause-number : goal.index_of-requires-clause-number
index_of-requires-clause-number g c =
    let old = g.N.Nand.flash c.args.nand.now in
    far_from_end old.blocks old.image c.args.parts.anchor_page c.args.parts.anchor (has_bytes old (g.met.N.Nand.sound c.args.nand.now)) c.requires.parts.sound c.requires.parts.found

pub returns-clause-stands : goal.returns-clause-stands
returns-clause-stands g c =
    let old = g.N.Nand.flash c.args.nand.now in
    let new = g.N.Nand.flash c.index_of.new.nand in
    let h = c.in_ok-index.ensures in
    stands old new c.args.parts c.in_ok-index.index c.in_ok-changes.changes c.requires.blocks.0 c.requires.blocks.1 c.requires.powered c.requires.parts c.in_ok-changes.ensures h.settled h.works.after h.stands
