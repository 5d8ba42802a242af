use Rattle.std.proofs.Common.{arith}
use Rattle.kv_nand.proofs.Chaining.{works_blocks, stops_blocks}
use Rattle.kssd_work.proofs.Written.{stands_kept, machine_kept, objects_kept, leaves_kept}
use Rattle.kssd_work.proofs.writing.write_runs.Goals as goal

pub returns-in_err-left-clause-objects : goal.returns-in_err-left-clause-objects
returns-in_err-left-clause-objects g c =
    let old = g.N.Nand.flash c.args.nand.now in
    let new = g.N.Nand.flash c.work.new.nand in
    objects_kept old.blocks old.image new.image c.requires.stands.whole c.work.ensures.kept

pub returns-in_err-left-clause-leaves : goal.returns-in_err-left-clause-leaves
returns-in_err-left-clause-leaves g c =
    let old = g.N.Nand.flash c.args.nand.now in
    let new = g.N.Nand.flash c.work.new.nand in
    leaves_kept c.args.mounted.now old new _ _ c.requires.stands (stops_blocks old new _ _ _ c.in_err-left.ensures.stops) c.work.ensures.kept c.work.ensures.aged (omega (arith, c.work.ensures.ages))

pub returns-clause-stands : goal.returns-clause-stands
returns-clause-stands g c =
    let old = g.N.Nand.flash c.args.nand.now in
    let new = g.N.Nand.flash c.work.new.nand in
    stands_kept c.args.mounted.now c.work.new.self old new _ _ c.requires.stands c.in_ok-left.ensures.works c.in_ok-left.ensures.stands c.work.ensures.kept

pub returns-clause-machine : goal.returns-clause-machine
returns-clause-machine g c =
    let old = g.N.Nand.flash c.args.nand.now in
    let new = g.N.Nand.flash c.work.new.nand in
    machine_kept c.args.mounted.now old new _ _ c.requires.stands c.in_ok-left.ensures.works c.work.ensures.kept

pub returns-clause-objects : goal.returns-clause-objects
returns-clause-objects g c =
    let old = g.N.Nand.flash c.args.nand.now in
    let new = g.N.Nand.flash c.work.new.nand in
    objects_kept old.blocks old.image new.image c.requires.stands.whole c.work.ensures.kept

pub returns-clause-leaves : goal.returns-clause-leaves
returns-clause-leaves g c =
    let old = g.N.Nand.flash c.args.nand.now in
    let new = g.N.Nand.flash c.work.new.nand in
    leaves_kept c.args.mounted.now old new _ _ c.requires.stands (works_blocks old new _ _ c.in_ok-left.ensures.works) c.work.ensures.kept c.work.ensures.aged (omega (arith, c.work.ensures.ages))
