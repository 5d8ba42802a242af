use Rattle.std.proofs.Common.{arith, rules}
use Rattle.kv_device.specs.Calls.{EndFault}
use Rattle.kssd_machine.specs.Faults.{device_fault}
use Rattle.kssd_mounted.specs.Standing.{machine_at}
use Rattle.kssd_mounted.proofs.Staying.{device_fault_down, down_is_up, open_is_allowed}
use Rattle.kssd_mounted.proofs.Changing.{fallen}
use Rattle.kssd_commit.proofs.Readings.{left_reading, done_before, fault_before, leaves_before, full_before}
use Rattle.kssd_commit.proofs.Leaving.{left_still, nothing_in, idle_done, idle_stands}
use Rattle.kssd_commit.proofs.ending.end.Goals as goal

pub returns-then-not-is_open-clause-leaves : goal.returns-then-not-is_open-clause-leaves
returns-then-not-is_open-clause-leaves g c = left_still c.args.mounted.now (g.N.Nand.flash c.args.nand.now) _ c.requires.stands (omega arith)

pub returns-then-is_empty-clause-ok : goal.returns-then-is_empty-clause-ok
returns-then-is_empty-clause-ok g c =
    let nothing = nothing_in c.args.mounted.now.changes c.args.tx.0 (search rules) (search rules) in
    idle_done c.args.mounted.now (g.N.Nand.flash c.args.nand.now) c.args.tx.0 c.requires.stands c.close.new.changes c.close.ensures nothing (g.met.N.Nand.sound c.args.nand.now)

pub returns-then-is_empty-clause-stands : goal.returns-then-is_empty-clause-stands
returns-then-is_empty-clause-stands g c =
    let nothing = nothing_in c.args.mounted.now.changes c.args.tx.0 (search rules) (search rules) in
    idle_stands c.args.mounted.now (g.N.Nand.flash c.args.nand.now) c.args.tx.0 c.requires.stands c.close.new.changes c.close.ensures nothing

pub returns-then-is_empty-clause-leaves : goal.returns-then-is_empty-clause-leaves
returns-then-is_empty-clause-leaves g c = left_still c.args.mounted.now (g.N.Nand.flash c.args.nand.now) _ c.requires.stands (omega arith)

pub returns-in-Err-clause-leaves : goal.returns-in-Err-clause-leaves
returns-in-Err-clause-leaves g c =
    left_reading c.args.mounted.now (g.N.Nand.flash c.args.nand.now) (g.N.Nand.flash c.judge.new.nand) c.in-Err.fault _ c.requires.stands (omega arith) c.in-Err.ensures.err

pub returns-then-not-has_room-clause-err : goal.returns-then-not-has_room-clause-err
returns-then-not-has_room-clause-err g c =
    full_before c.args.mounted.now (g.N.Nand.flash c.args.nand.now) (g.N.Nand.flash c.judge.new.nand) c.in-Ok.ensures.reads c.args.tx.0 c.in-Ok.judged c.blocks-2.result (open_is_allowed c.args.mounted.now.changes c.args.tx.0 (search rules)) c.in-Ok.ensures.judged c.blocks-2.ensures (search rules)

pub returns-then-not-has_room-clause-leaves : goal.returns-then-not-has_room-clause-leaves
returns-then-not-has_room-clause-leaves g c =
    leaves_before c.args.mounted.now (g.N.Nand.flash c.args.nand.now) (g.N.Nand.flash c.judge.new.nand) c.in-Ok.ensures.reads (g.N.Nand.flash c.judge.new.nand) _
    (left_still c.args.mounted.now (g.N.Nand.flash c.judge.new.nand) _ c.in-Ok.ensures.stands (omega arith))

pub returns-in-Ok-commit-clause-ok : goal.returns-in-Ok-commit-clause-ok
returns-in-Ok-commit-clause-ok g c =
    done_before c.args.mounted.now (g.N.Nand.flash c.args.nand.now) (g.N.Nand.flash c.judge.new.nand) c.in-Ok.ensures.reads c.args.tx.0 _ c.in-Ok-commit.ensures.ok

pub returns-in-Err-commit-clause-err : goal.returns-in-Err-commit-clause-err
returns-in-Err-commit-clause-err g c =
    let ended = EndFault (machine_at (g.N.Nand.flash c.args.nand.now) c.args.mounted.now) c.args.tx.0 in
    fallen ended c.commit.new.mounted (g.N.Nand.flash c.commit.new.nand) c.device_fault-in-Err-commit.result (device_fault c.in-Err-commit.fault) c.device_fault-in-Err-commit.ensures (device_fault_down c.in-Err-commit.fault)
    (fault_before c.args.mounted.now (g.N.Nand.flash c.args.nand.now) (g.N.Nand.flash c.judge.new.nand) c.in-Ok.ensures.reads c.args.tx.0 _ _ c.in-Err-commit.ensures.err)

pub returns-in-Err-commit-clause-refused : goal.returns-in-Err-commit-clause-refused
returns-in-Err-commit-clause-refused g c = down_is_up c.in-Err-commit.fault c.device_fault-in-Err-commit.result c.device_fault-in-Err-commit.ensures

pub returns-in-Err-commit-clause-untouched : goal.returns-in-Err-commit-clause-untouched
returns-in-Err-commit-clause-untouched g c = down_is_up c.in-Err-commit.fault c.device_fault-in-Err-commit.result c.device_fault-in-Err-commit.ensures
