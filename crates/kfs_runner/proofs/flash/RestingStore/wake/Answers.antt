use Rattle.std.proofs.Common.{◌≤◌, ◌+◌, ◌^◌, ◌∙◌, Some, refl, sym, ap, subst}
use Rattle.kv_nand.specs.Flash.{Flash}
use Rattle.kv_nand.specs.Calls.{powered_on}
use Rattle.kssd_image.specs.Whole.{Sound}
use Rattle.kssd_image.proofs.OneDamage.{sound_has_none}
use Rattle.kssd_machine.specs.Machines.{resting}
use Rattle.kssd_mount.specs.Mounting.{FailsMounting, IsSpared}
use Rattle.kssd_mount.proofs.Taking.{taken}
use Rattle.kfs_core.specs.declared.fault.HostFault.{HostFault}
use Rattle.kfs_runner.specs.Refusals.{rested_on}
use Rattle.kfs_runner.specs.Stores.{NotWoken, IsOutside}
use Rattle.kfs_runner.proofs.Waking.{not_woken, not_damaged, stays_damaged, left_blocks}
use Rattle.kfs_runner.proofs.flash.RestingStore.wake.Goals as goal

pub invariant_of-result : goal.invariant_of-result
invariant_of-result g c =
    let old = g.N.Nand.flash c.args.self.nand in
    record { blocks = left_blocks old (g.N.Nand.flash c.power_on.new.self) (g.N.Nand.flash c.in-Err.nand) c.args.self.blocks c.power_on.ensures c.in-Err.ensures.spared }

pub returns-in-Err-clause-err : goal.returns-in-Err-clause-err
returns-in-Err-clause-err g c =
    let old = g.N.Nand.flash c.args.self.nand in
    let new = g.N.Nand.flash c.in-Err.nand in
    let P : Flash → Type 0 = λ f. FailsMounting f c.in-Err.fault new in
    let Q : HostFault → Type 0 = λ fault. NotWoken (Some (rested_on old)) (resting old) fault (resting new) in
    subst Q (sym c.host_fault.ensures) (not_woken (powered_on old) new c.in-Err.fault refl (subst P c.power_on.ensures c.in-Err.ensures.err))

pub returns-in-Err-clause-outside : goal.returns-in-Err-clause-outside
returns-in-Err-clause-outside g c = λ whole low.
    let old = g.N.Nand.flash c.args.self.nand in
    let new = g.N.Nand.flash c.in-Err.nand in
    let P : Flash → Type 0 = λ f. FailsMounting f c.in-Err.fault new in
    subst IsOutside (sym c.host_fault.ensures) (not_damaged (powered_on old) new c.in-Err.fault whole low (subst P c.power_on.ensures c.in-Err.ensures.err))

pub returns-in-Err-clause-whole : goal.returns-in-Err-clause-whole
returns-in-Err-clause-whole g c = λ whole low.
    let old = g.N.Nand.flash c.args.self.nand in
    let P : Flash → Type 0 = λ f. Sound f.blocks f.image in
    (c.in-Err.ensures.left (subst P (sym c.power_on.ensures) (taken old.blocks old.image whole low))).whole

pub returns-in-Err-clause-stays : goal.returns-in-Err-clause-stays
returns-in-Err-clause-stays g c = λ damage is.
    let old = g.N.Nand.flash c.args.self.nand in
    let new = g.N.Nand.flash c.in-Err.nand in
    let P : Flash → Type 0 = λ f. IsSpared f new in
    stays_damaged (powered_on old) new damage is (subst P c.power_on.ensures c.in-Err.ensures.spared)

pub returns-in-Ok-with_cache-clause-taken : goal.returns-in-Ok-with_cache-clause-taken
returns-in-Ok-with_cache-clause-taken g c = λ damage is.
    let old = g.N.Nand.flash c.args.self.nand in
    let P : Flash → Type 0 = λ f. Sound f.blocks f.image in
    sound_has_none old.blocks old.image damage (subst P c.power_on.ensures c.in-Ok.ensures.sound) is

pub returns-in-Err-with_cache-clause-stays : goal.returns-in-Err-with_cache-clause-stays
returns-in-Err-with_cache-clause-stays g c = λ damage is.
    let old = g.N.Nand.flash c.args.self.nand in
    let P : Flash → Type 0 = λ f. Sound f.blocks f.image in
    absurd (sound_has_none old.blocks old.image damage (subst P c.power_on.ensures c.in-Ok.ensures.sound) is)
