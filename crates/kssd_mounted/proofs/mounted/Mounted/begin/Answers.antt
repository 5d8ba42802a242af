use Rattle.std.proofs.Common.{◌∙◌, Err, ap, refl}
use Rattle.kv_device.specs.Calls.{BeginFault}
use Rattle.kv_device.specs.declared.fault.DeviceFault.TheVariants.{Busy}
use Rattle.kssd_machine.specs.Calling.{tx_fault}
use Rattle.kssd_machine.proofs.Transacting.{busy_is}
use Rattle.kssd_mounted.specs.Standing.{machine_at}
use Rattle.kssd_mounted.proofs.Changing.{refused, begun_stands, begun_done}
use Rattle.kssd_mounted.proofs.mounted.Mounted.begin.Goals as goal

pub returns-in-Ok-clause-ok : goal.returns-in-Ok-clause-ok
returns-in-Ok-clause-ok g c = begun_done c.args.self.now (g.N.Nand.flash c.args.nand.now) c.in-Ok.tx.0 c.begin.new.self c.in-Ok.ensures.number c.in-Ok.ensures.ok

pub returns-in-Ok-clause-stands : goal.returns-in-Ok-clause-stands
returns-in-Ok-clause-stands g c = begun_stands c.args.self.now (g.N.Nand.flash c.args.nand.now) c.in-Ok.tx.0 c.begin.new.self c.requires.stands c.in-Ok.ensures.number c.in-Ok.ensures.ok

pub returns-in-Err-clause-err : goal.returns-in-Err-clause-err
returns-in-Err-clause-err g c =
    let flash = g.N.Nand.flash c.args.nand.now in
    let m = c.args.self.now in
    refused (BeginFault (machine_at flash m)) (record m { changes = c.begin.new.self }) flash m.changes c.tx_fault.result Busy (c.tx_fault.ensures ∙ ap tx_fault c.in-Err.ensures.err.0) refl c.in-Err.ensures.err.1
    (busy_is flash m.changes c.requires.stands.four (c.in-Err.ensures.busy.0 (ap Err c.in-Err.ensures.err.0)))
