-- What a mount leaves, whatever the image was.
use Rattle.std.proofs.Common.{◌≡◌, ◌∙◌, ℕ, ◌≤◌, ◌+◌, ◌^◌, Bool, ap, inl, inr, arith}
use Rattle.kv_base.specs.declared.damage.Damage.{Damage}
use Rattle.kv_nand.specs.declared.fault.MountFault.{MountFault}
use Rattle.kv_nand.specs.declared.fault.MountFault.TheVariants as mount
use Rattle.kv_nand.specs.Flash.{Flash, Image}
use Rattle.kssd_model.specs.OnlyReading.{OnlyReads}
use Rattle.kssd_image.specs.Whole.{Sound, age_in}
use Rattle.kssd_recover.specs.Faults.{FailsBy}
use Rattle.kssd_mounted.specs.Standing.{Leaves}
use Rattle.kssd_mount.specs.Mounting.{IsOnlyRead, IsSettled, IsSpared}
use Rattle.kssd_mount.proofs.Settling.{leaves}

only_read : (Why : Damage → Type 0) (old new : Flash) (fault : MountFault) → FailsBy Why old fault new → (new.blocks ≡ old.blocks) × IsOnlyRead old new
only_read Why old new (mount.Damaged damage) fails = let e = fails.1.after in (ap (λ (f : Flash). f.blocks) e, record { image = ap (λ (f : Flash). f.image) e; ops = ap (λ (f : Flash). f.ops) e })
only_read Why old new mount.Off fails = let e = fails.after.1 in (ap (λ (f : Flash). f.blocks) e, record { image = ap (λ (f : Flash). f.image) e; ops = ap (λ (f : Flash). f.ops) e })
only_read Why old new mount.Failed fails = let e = fails.after.1 in (ap (λ (f : Flash). f.blocks) e, record { image = ap (λ (f : Flash). f.image) e; ops = ap (λ (f : Flash). f.ops) e })
only_read Why old new mount.Memory fails = let e = fails.after in (ap (λ (f : Flash). f.blocks) e, record { image = ap (λ (f : Flash). f.image) e; ops = ap (λ (f : Flash). f.ops) e })

-- where it stopped while it read
pub spared_read : (Why : Damage → Type 0) (old new : Flash) (fault : MountFault) → FailsBy Why old fault new → IsSpared old new
spared_read Why old new fault fails =
    let r = only_read Why old new fault fails in
    let age : age_in new.image ≡ age_in old.image = ap age_in r.1.image in
    record { blocks = r.0; age = omega arith; unsound = λ not. r.1 }

-- where the image was sound
pub spared_sound : (old mid new : Flash) (clean : Bool) → Sound old.blocks old.image → OnlyReads old mid → IsSettled clean mid new → IsSpared old new
spared_sound old mid new clean sound read h =
    let left = leaves old mid new clean sound read h in
    record { blocks = left.blocks; age = left.age_is; unsound = λ not. absurd (not sound) }
