use Rattle.std.proofs.Common.{◌≡◌, ◌+◌, ◌∙◌, Bool, cond, sym, ap, subst, arith}
use Rattle.kv_device.specs.declared.fault.DeviceFault.{DeviceFault}
use Rattle.kv_device.specs.Calls.{SetFault}
use Rattle.kssd_collect.specs.Costs.{most_collect_reads}
use Rattle.kssd_machine.specs.Faults.{device_fault}
use Rattle.kssd_machine.proofs.Transacting.{set_is}
use Rattle.kssd_mounted.specs.Standing.{mounted_age, machine_at, machine_after}
use Rattle.kssd_store.specs.Setting.{set_rise, most_set_cost}
use Rattle.kssd_mounted.proofs.Staying.{down_is_up}
use Rattle.kssd_store.proofs.Leaving.{still_leaves, refused_is, fallen_is, leaves_within}
use Rattle.kssd_store.proofs.setting.set.Goals as goal

pub returns-in-Some-clause-err : goal.returns-in-Some-clause-err
returns-in-Some-clause-err g c = refused_is c.args.mounted.now (g.N.Nand.flash c.args.nand.now) c.args.tx.0 c.args.key.now c.args.value.now c.in-Some.fault c.requires.stands.rising c.in-Some.ensures.stays_up (sym c.in-Some.ensures.first)

pub returns-in-Some-clause-leaves : goal.returns-in-Some-clause-leaves
returns-in-Some-clause-leaves g c = still_leaves c.args.mounted.now (g.N.Nand.flash c.args.nand.now) (mounted_age c.args.mounted.now + set_rise c.args.value.now) c.requires.stands (omega arith)

pub returns-then-not-is_large-clause-leaves : goal.returns-then-not-is_large-clause-leaves
returns-then-not-is_large-clause-leaves g c = still_leaves c.args.mounted.now (g.N.Nand.flash c.args.nand.now) (mounted_age c.args.mounted.now + set_rise c.args.value.now) c.requires.stands (omega arith)

pub set_large-requires-clause-allowed : goal.set_large-requires-clause-allowed
set_large-requires-clause-allowed g c =
    set_is (g.N.Nand.flash c.args.nand.now) c.args.mounted.now.changes c.args.tx.0 c.args.key.now c.args.value.now c.requires.stands.rising ∙ sym c.refusal.ensures.first ∙ c.in_default.is

pub returns-in-Ok-clause-leaves : goal.returns-in-Ok-clause-leaves
returns-in-Ok-clause-leaves g c =
    let rise : set_rise c.args.value.now ≡ 2048 = ap (λ (large : Bool). cond large 2048 0) (sym c.is_large.ensures ∙ c.if-not-is_large.false) in
    leaves_within (g.N.Nand.flash c.args.nand.now) (g.N.Nand.flash c.set_large.new.nand) (mounted_age c.args.mounted.now + 1024) (mounted_age c.args.mounted.now + set_rise c.args.value.now) c.in-Ok.ensures.leaves (omega arith)

pub returns-in-Err-clause-err : goal.returns-in-Err-clause-err
returns-in-Err-clause-err g c =
    let old = g.N.Nand.flash c.args.nand.now in
    let new = g.N.Nand.flash c.set_large.new.nand in
    let fallen = fallen_is c.args.mounted.now c.set_large.new.mounted old new c.args.tx.0 c.args.key.now c.args.value.now c.in-Err.fault (most_set_cost old.blocks) most_collect_reads c.refusal.result c.requires.stands c.refusal.ensures.first c.in_default.is (g.met.N.Nand.sound c.set_large.new.nand) c.in-Err.ensures.stops c.in-Err.ensures.objects in
    subst (λ (fault : DeviceFault). SetFault (machine_at old c.args.mounted.now) c.args.tx.0 c.args.key.now c.args.value.now fault (machine_after fault new c.set_large.new.mounted)) (sym {b = device_fault c.in-Err.fault} c.device_fault.ensures) fallen

pub returns-in-Err-clause-refused : goal.returns-in-Err-clause-refused
returns-in-Err-clause-refused g c = down_is_up c.in-Err.fault c.device_fault.result c.device_fault.ensures

pub returns-in-Err-clause-leaves : goal.returns-in-Err-clause-leaves
returns-in-Err-clause-leaves g c =
    let rise : set_rise c.args.value.now ≡ 2048 = ap (λ (large : Bool). cond large 2048 0) (sym c.is_large.ensures ∙ c.if-not-is_large.false) in
    leaves_within (g.N.Nand.flash c.args.nand.now) (g.N.Nand.flash c.set_large.new.nand) (mounted_age c.args.mounted.now + 1024) (mounted_age c.args.mounted.now + set_rise c.args.value.now) c.in-Err.ensures.leaves (omega arith)
