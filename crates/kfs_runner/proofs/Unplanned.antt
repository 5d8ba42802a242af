-- Where neither a cut nor a fault is planned, a flash is formatted and a new device mounted, unless memory is wanting.
use Rattle.std.proofs.Common.{◌≡◌, ◌≤◌, ◌<◌, ◌+◌, ◌^◌, ◌∙◌, ℕ, true, false, inl, inr, refl, sym, ap, subst, arith}
use Rattle.std.proofs.lemmas.Bool.{false≢true}
use Rattle.kv_base.specs.Counts.{one_more}
use Rattle.kv_nand.specs.Flash.{Flash}
use Rattle.kv_nand.specs.Flash as flash_words
use Rattle.kv_nand.specs.Working.{Works, StopsBy}
use Rattle.kv_nand.specs.declared.fault.FlashFault.{FlashFault}
use Rattle.kv_nand.specs.declared.fault.FlashFault.TheVariants as flash
use Rattle.kv_nand.specs.declared.fault.MountFault.{MountFault}
use Rattle.kv_nand.specs.declared.fault.MountFault.TheVariants as mount
use Rattle.kv_device.specs.declared.fault.DeviceFault.{DeviceFault}
use Rattle.kv_device.specs.declared.fault.DeviceFault.TheVariants as device
use Rattle.kv_device.specs.Objects.{IsHeld}
use Rattle.kv_device.specs.Machine.{Machine}
use Rattle.kssd_image.specs.Whole.{Sound}
use Rattle.kssd_image.proofs.OneDamage.{sound_has_none}
use Rattle.kssd_mount.specs.Mounting.{FailsMounting}
use Rattle.kfs_model.specs.Tree.{root_alone}
use Rattle.kfs_posix.specs.Mounting.{limits_in}
use Rattle.kfs_tx.specs.Tx.{CausedAlone}
use Rattle.kfs_core.specs.declared.fault.HostFault.{HostFault}
use Rattle.kfs_core.specs.declared.fault.HostFault.TheVariants as host
use Rattle.kfs_core.specs.Starting.{NotMounted, NotFormatted}
use Rattle.kfs_runner.specs.MountPoints.{IsNew}
use Rattle.kfs_runner.specs.Serving.{IsUnplanned}
use Rattle.kfs_runner.proofs.PointLaws.{first_saved}
use Rattle.kfs_runner.proofs.Undamaged.{undamaged}

-- a count that is at its bound doesn't rise
full : (count now most most_now : ℕ) → most ≡ count → count ≤ 2 ^ 62 → most_now ≡ most → now ≤ most_now → now ≡ one_more count → ⊥
full count now most most_now is few same within rose = omega (arith, is, few, same, within, rose)

pub works_unplanned : (old new : Flash) (ops reads : ℕ) → Works old new ops reads → IsUnplanned old → IsUnplanned new
works_unplanned old new ops reads works none = subst IsUnplanned (sym works.after) (record { cuts = none.cuts; faults = none.faults; few_cuts = none.few_cuts; few_faults = none.few_faults })

-- a format
pub formats_but_for_memory : (old new : Flash) (fault : FlashFault) → IsUnplanned old → old.powered ≡ true → flash_words.IsSound new → StopsBy old fault new → fault ≡ flash.Memory
formats_but_for_memory old new flash.Off none on sound (inl dark) = absurd (false≢true (sym dark.0 ∙ on))
formats_but_for_memory old new flash.Off none on sound (inr cut) =
    absurd (full old.cuts new.cuts old.most_cuts new.most_cuts none.cuts none.few_cuts (ap (λ (f : Flash). f.most_cuts) cut.1) sound.cuts (ap (λ (f : Flash). f.cuts) cut.1))
formats_but_for_memory old new flash.Failed none on sound failed =
    absurd (full old.faults new.faults old.most_faults new.most_faults none.faults none.few_faults (ap (λ (f : Flash). f.most_faults) failed.1) sound.faults (ap (λ (f : Flash). f.faults) failed.1))
formats_but_for_memory old new flash.Memory none on sound stops = refl

-- a mount of a device
pub mounts_but_for_memory : (old new : Flash) (fault : MountFault) → IsUnplanned old → old.powered ≡ true → Sound old.blocks old.image → FailsMounting old fault new → fault ≡ mount.Memory
mounts_but_for_memory old new (mount.Damaged damage) none on sound fails = absurd (sound_has_none old.blocks old.image damage sound fails.0)
mounts_but_for_memory old new mount.Off none on sound (inl dark) = absurd (false≢true (sym dark.0 ∙ on))
mounts_but_for_memory old new mount.Off none on sound (inr fails) =
    absurd (full old.cuts new.cuts old.most_cuts old.most_cuts none.cuts none.few_cuts refl fails.1.0.0 fails.1.0.1)
mounts_but_for_memory old new mount.Failed none on sound fails =
    absurd (full old.faults new.faults old.most_faults old.most_faults none.faults none.few_faults refl fails.1.0.0 fails.1.0.1)
mounts_but_for_memory old new mount.Memory none on sound fails = refl

-- a format of a device that is up
pub stores_but_for_memory : (old new : Machine) (fault : DeviceFault) → old.up ≡ true → old.most_cuts ≡ old.cuts → old.most_faults ≡ old.faults → old.cuts ≤ 2 ^ 62 → old.faults ≤ 2 ^ 62 → CausedAlone old fault new → fault ≡ device.Memory
stores_but_for_memory old new device.NoTx up cuts faults few_cuts few_faults cause = absurd cause
stores_but_for_memory old new device.Busy up cuts faults few_cuts few_faults cause = absurd cause
stores_but_for_memory old new device.TxFull up cuts faults few_cuts few_faults cause = absurd cause
stores_but_for_memory old new (device.Full keys pages) up cuts faults few_cuts few_faults cause = absurd cause
stores_but_for_memory old new device.BadSize up cuts faults few_cuts few_faults cause = absurd cause
stores_but_for_memory old new device.Off up cuts faults few_cuts few_faults (inl dark) = absurd (false≢true (sym dark.0 ∙ up))
stores_but_for_memory old new device.Off up cuts faults few_cuts few_faults (inr rose) = absurd (full old.cuts new.cuts old.most_cuts old.most_cuts cuts few_cuts refl rose.0.0 rose.0.1)
stores_but_for_memory old new device.Failed up cuts faults few_cuts few_faults rose = absurd (full old.faults new.faults old.most_faults old.most_faults faults few_faults refl rose.0.0 rose.0.1)
stores_but_for_memory old new device.Memory up cuts faults few_cuts few_faults cause = refl

-- a mount of a session
pub begins_but_for_memory : (m new : Machine) (fault : HostFault) → IsNew m → 3 ≤ m.room_keys → IsHeld m.stable → NotMounted m fault new → fault ≡ host.NoMem
begins_but_for_memory m new (host.Damaged damage) is room held not =
    absurd (undamaged (limits_in m) m.stable root_alone 0 damage held (first_saved m is room) (omega arith) (omega arith) not.cause.0)
begins_but_for_memory m new host.Cut is room held not = absurd (full m.cuts new.cuts m.most_cuts m.most_cuts is.cuts is.few_cuts refl not.cause.0.0 not.cause.0.1)
begins_but_for_memory m new host.Eio is room held not = absurd (full m.faults new.faults m.most_faults m.most_faults is.faults is.few_faults refl not.cause.0.0 not.cause.0.1)
begins_but_for_memory m new host.NoMem is room held not = refl
