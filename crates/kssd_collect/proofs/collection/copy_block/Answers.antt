use Rattle.std.proofs.Common.{◌∙◌, sym}
use Rattle.kv_nand.proofs.Chaining.{works_blocks, stops_blocks}
use Rattle.kssd_collect.proofs.Kept.{values_stand, objects_kept, leaves_kept, busy_kept, machine_kept}
use Rattle.kssd_collect.proofs.collection.copy_block.Goals as goal

pub copy_some-requires-clause-stands : goal.copy_some-requires-clause-stands
copy_some-requires-clause-stands g c = values_stand c.args.mounted.now _ c.requires.collected.busy

pub returns-in_err-left-clause-objects : goal.returns-in_err-left-clause-objects
returns-in_err-left-clause-objects g c = objects_kept c.args.mounted.now (g.N.Nand.flash c.args.nand.now) (g.N.Nand.flash c.copy_some.new.nand) c.requires.collected.busy c.in_err-left.ensures.keeps

pub returns-in_err-left-clause-leaves : goal.returns-in_err-left-clause-leaves
returns-in_err-left-clause-leaves g c = leaves_kept c.args.mounted.now (g.N.Nand.flash c.args.nand.now) (g.N.Nand.flash c.copy_some.new.nand) c.requires.collected.busy c.in_err-left.ensures.keeps (stops_blocks (g.N.Nand.flash c.args.nand.now) (g.N.Nand.flash c.copy_some.new.nand) _ _ _ c.in_err-left.ensures.stops)

pub returns-clause-collected : goal.returns-clause-collected
returns-clause-collected g c =
    let m = c.args.mounted.now in
    let values = c.copy_some.new.values in
    let old = g.N.Nand.flash c.args.nand.now in
    let new = g.N.Nand.flash c.copy_some.new.nand in
    let done = c.in_ok-left.ensures in
    record {
      busy = busy_kept m values old new _ _ c.requires.collected.busy done.keeps (done.stands.device ∙ works_blocks old new _ _ done.works ∙ sym c.requires.collected.busy.device) done.marks done.stands.fills done.copies.block done.works;
      copies = done.copies;
    }

pub returns-clause-machine : goal.returns-clause-machine
returns-clause-machine g c =
    machine_kept c.args.mounted.now (g.N.Nand.flash c.args.nand.now) (g.N.Nand.flash c.copy_some.new.nand) _ _ c.requires.collected.busy c.in_ok-left.ensures.keeps c.in_ok-left.ensures.works

pub returns-clause-objects : goal.returns-clause-objects
returns-clause-objects g c = objects_kept c.args.mounted.now (g.N.Nand.flash c.args.nand.now) (g.N.Nand.flash c.copy_some.new.nand) c.requires.collected.busy c.in_ok-left.ensures.keeps

pub returns-clause-leaves : goal.returns-clause-leaves
returns-clause-leaves g c = leaves_kept c.args.mounted.now (g.N.Nand.flash c.args.nand.now) (g.N.Nand.flash c.copy_some.new.nand) c.requires.collected.busy c.in_ok-left.ensures.keeps (works_blocks (g.N.Nand.flash c.args.nand.now) (g.N.Nand.flash c.copy_some.new.nand) _ _ c.in_ok-left.ensures.works)
