-- A flash on which no device is mounted.
use Rattle.std.proofs.Common.{◌≡◌, ◌≤◌, ◌<◌, ◌^◌, ◌∙◌, ℕ, true, Some, inl, inr, sym, ap, subst, arith}
use Rattle.std.proofs.lemmas.Bool.{false≢true}
use Rattle.kv_base.specs.declared.damage.Damage.{Damage}
use Rattle.kv_nand.specs.Flash.{Flash}
use Rattle.kv_nand.specs.declared.fault.MountFault.{MountFault}
use Rattle.kv_nand.specs.declared.fault.MountFault.TheVariants as mount
use Rattle.kv_nand.specs.Calls.{powered_on}
use Rattle.kv_device.specs.Machine.{Machine}
use Rattle.kssd_image.specs.Damages.{IsDamage}
use Rattle.kssd_image.specs.Whole.{Sound, IsWhole, age_in}
use Rattle.kssd_image.proofs.OneDamage.{sound_has_none}
use Rattle.kssd_machine.specs.Machines.{resting}
use Rattle.kssd_mounted.specs.Standing.{Leaves}
use Rattle.kssd_model.specs.OnlyReading.{OnlyReads}
use Rattle.kssd_mount.specs.Mounting.{FailsMounting, IsSpared}
use Rattle.kssd_mount.proofs.Taking.{taken}
use Rattle.kfs_core.specs.declared.fault.HostFault.TheVariants as host
use Rattle.kfs_runner.specs.Flashes.{HasBlocks, host_fault}
use Rattle.kfs_runner.specs.Refusals.{rested_on, whole_in, damaged_in}
use Rattle.kfs_runner.specs.Stores.{NotWoken, IsOutside}

-- nothing but a read count changed
read_rests : (old new : Flash) → OnlyReads old new → resting new ≡ resting old
read_rests old new reads = grind arith

-- a mount that fails on a flash with power leaves a device that is down, with the same objects
pub not_woken : (old new : Flash) (fault : MountFault) → old.powered ≡ true → FailsMounting old fault new → NotWoken (Some (rested_on old)) (resting old) (host_fault fault) (resting new)
not_woken old new (mount.Damaged damage) on fails =
    let same = read_rests old new fails.1 in
    let cuts = ap (λ (m : Machine). m.cuts) same in
    let faults = ap (λ (m : Machine). m.faults) same in
    record { cause = (fails.0, cuts, faults); same = same ∙ λ i. record (resting old) { cuts = sym cuts i; faults = sym faults i } }
not_woken old new mount.Off on (inl dark) = absurd (false≢true (sym dark.0 ∙ on))
not_woken old new mount.Off on (inr fails) = record { cause = (fails.1.0, ap (λ (m : Machine). m.faults) fails.1.1); same = fails.1.1 ∙ λ i. record (resting old) { cuts = (resting new).cuts; faults = sym (ap (λ (m : Machine). m.faults) fails.1.1) i } }
not_woken old new mount.Failed on fails = record { cause = (fails.1.0, ap (λ (m : Machine). m.cuts) fails.1.1); same = fails.1.1 ∙ λ i. record (resting old) { cuts = sym (ap (λ (m : Machine). m.cuts) fails.1.1) i; faults = (resting new).faults } }
not_woken old new mount.Memory on fails =
    let cuts = ap (λ (m : Machine). m.cuts) fails in
    let faults = ap (λ (m : Machine). m.faults) fails in
    record { cause = (cuts, faults); same = fails ∙ λ i. record (resting old) { cuts = sym cuts i; faults = sym faults i } }

-- an image that a mount takes is not refused
pub not_damaged : (old new : Flash) (fault : MountFault) → IsWhole old.blocks old.image → age_in old.image < 2 ^ 62 → FailsMounting old fault new → IsOutside (host_fault fault)
not_damaged old new (mount.Damaged damage) whole low fails = absurd (sound_has_none old.blocks old.image damage (taken old.blocks old.image whole low) fails.0)
not_damaged old new mount.Off whole low fails = tt
not_damaged old new mount.Failed whole low fails = tt
not_damaged old new mount.Memory whole low fails = tt

-- a damaged image stays as it was
pub stays_damaged : (old new : Flash) (damage : Damage) → IsDamage old.blocks old.image damage → IsSpared old new → Some (rested_on new) ≡ Some (rested_on old)
stays_damaged old new damage is spared =
    let image = (spared.unsound (λ sound. sound_has_none old.blocks old.image damage sound is)).image in
    λ i. Some (record { blocks = spared.blocks i; image = image i })

-- what a mount left has the same blocks
pub left_blocks : (old on new : Flash) → HasBlocks old → on ≡ powered_on old → IsSpared on new → HasBlocks new
left_blocks old on new has power spared =
    let blocks : new.blocks ≡ old.blocks = spared.blocks ∙ ap (λ (f : Flash). f.blocks) power in
    record { least = subst (λ n. 256 ≤ n) (sym blocks) has.least; most = subst (λ n. n ≤ 2048) (sym blocks) has.most }
