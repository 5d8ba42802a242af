use Rattle.std.proofs.Common.{refl}
use Rattle.kv_device.specs.Calls.{WorkFault}
use Rattle.kssd_machine.specs.Faults.{device_fault}
use Rattle.kssd_machine.proofs.Falling.{working}
use Rattle.kssd_mounted.specs.Standing.{machine_at}
use Rattle.kssd_mounted.proofs.Staying.{device_fault_down, down_is_up}
use Rattle.kssd_mounted.proofs.Changing.{fallen}
use Rattle.kssd_engine.proofs.working.work_on.Goals as goal

pub returns-in-Ok-clause-ok : goal.returns-in-Ok-clause-ok
returns-in-Ok-clause-ok g c = record { allowed = refl; after = c.in-Ok.ensures.machine }

pub returns-in-Err-clause-err : goal.returns-in-Err-clause-err
returns-in-Err-clause-err g c =
    let old = g.N.Nand.flash c.args.nand.now in
    let new = g.N.Nand.flash c.work.new.nand in
    let m = c.args.mounted.now in
    fallen (WorkFault (machine_at old m)) c.work.new.mounted new c.device_fault.result (device_fault c.in-Err.fault) c.device_fault.ensures (device_fault_down c.in-Err.fault)
    (working old new m.changes c.in-Err.fault _ _ (g.met.N.Nand.sound c.work.new.nand) c.requires.stands.powered c.in-Err.ensures.stops c.work.ensures.objects)

pub returns-in-Err-clause-refused : goal.returns-in-Err-clause-refused
returns-in-Err-clause-refused g c = down_is_up c.in-Err.fault c.device_fault.result c.device_fault.ensures
