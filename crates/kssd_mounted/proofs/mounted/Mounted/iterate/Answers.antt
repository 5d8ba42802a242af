use Rattle.std.proofs.Common.{◌∙◌, sym, refl}
use Rattle.kssd_mounted.proofs.Staying.{leaves_image, stopped_left, iterate_done, open_is_allowed, read_fallen, reads_left, ops_read, ops_stopped}
use Rattle.kssd_mounted.proofs.mounted.Mounted.iterate.Goals as goal

pub returns-then-not-is_open-clause-leaves : goal.returns-then-not-is_open-clause-leaves
returns-then-not-is_open-clause-leaves g c = leaves_image c.args.self.now (g.N.Nand.flash c.args.nand.now) (g.N.Nand.flash c.args.nand.now) refl refl c.requires.stands

pub returns-in-Ok-clause-ok : goal.returns-in-Ok-clause-ok
returns-in-Ok-clause-ok g c = iterate_done c.args.self.now (g.N.Nand.flash c.args.nand.now) (g.N.Nand.flash c.iterate.new.nand) c.args.tx.0 c.args.from.now c.args.prefix.now c.args.at_most c.in-Ok.pairs c.requires.stands c.in-Ok.ensures.reads (open_is_allowed c.args.self.now.changes c.args.tx.0 (sym c.is_open.ensures ∙ c.if-not-is_open.false)) c.in-Ok.ensures.pairs

pub returns-in-Ok-clause-leaves : goal.returns-in-Ok-clause-leaves
returns-in-Ok-clause-leaves g c =
    let left = reads_left (g.N.Nand.flash c.args.nand.now) (g.N.Nand.flash c.iterate.new.nand) c.in-Ok.ensures.reads in
    leaves_image c.args.self.now (g.N.Nand.flash c.args.nand.now) (g.N.Nand.flash c.iterate.new.nand) left.1 left.0 c.requires.stands

pub returns-in-Err-clause-err : goal.returns-in-Err-clause-err
returns-in-Err-clause-err g c =
    read_fallen c.args.self.now (g.N.Nand.flash c.args.nand.now) (g.N.Nand.flash c.iterate.new.nand) c.args.tx.0 c.in-Err.fault c.device_fault.result (g.met.N.Nand.sound c.iterate.new.nand) c.requires.stands (open_is_allowed c.args.self.now.changes c.args.tx.0 (sym c.is_open.ensures ∙ c.if-not-is_open.false)) c.in-Err.ensures.err c.device_fault.ensures

pub returns-in-Err-clause-leaves : goal.returns-in-Err-clause-leaves
returns-in-Err-clause-leaves g c =
    let left = stopped_left (g.N.Nand.flash c.args.nand.now) (g.N.Nand.flash c.iterate.new.nand) c.in-Err.fault c.in-Err.ensures.err in
    leaves_image c.args.self.now (g.N.Nand.flash c.args.nand.now) (g.N.Nand.flash c.iterate.new.nand) left.1 left.0 c.requires.stands

pub returns-in-Ok-clause-idle : goal.returns-in-Ok-clause-idle
returns-in-Ok-clause-idle g c = ops_read (g.N.Nand.flash c.args.nand.now) (g.N.Nand.flash c.iterate.new.nand) c.in-Ok.ensures.reads

pub returns-in-Err-clause-idle : goal.returns-in-Err-clause-idle
returns-in-Err-clause-idle g c = ops_stopped (g.N.Nand.flash c.args.nand.now) (g.N.Nand.flash c.iterate.new.nand) c.in-Err.fault c.in-Err.ensures.err
