use Rattle.kssd_mounted.proofs.Changing.{dead_allowed, abort_done, abort_stands}
use Rattle.kssd_mounted.proofs.mounted.Mounted.abort.Goals as goal

pub mark_entries-requires : goal.mark_entries-requires
mark_entries-requires g c = dead_allowed c.args.self.now (g.N.Nand.flash c.args.nand.now) c.args.tx.0 c.changes.result.now c.requires.stands c.changes.ensures.value

pub returns-in-Ok-clause-ok : goal.returns-in-Ok-clause-ok
returns-in-Ok-clause-ok g c = abort_done c.args.self.now (g.N.Nand.flash c.args.nand.now) c.args.tx.0 c.abort.new.self c.in-Ok.ensures.allowed c.in-Ok.ensures.ok

pub returns-in-Ok-clause-stands : goal.returns-in-Ok-clause-stands
returns-in-Ok-clause-stands g c =
    abort_stands c.args.self.now (g.N.Nand.flash c.args.nand.now) c.args.tx.0 c.changes.result.now c.mark_entries.new.values c.abort.new.self c.requires.stands c.changes.ensures.value c.mark_entries.ensures.marks c.mark_entries.ensures.places c.in-Ok.ensures.ok
