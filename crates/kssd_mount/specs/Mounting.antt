-- What a mount leaves where it fails, and where it programs and erases nothing.
use Rattle.std.specs.Prelude.{◌≡◌, ◌⊎◌, ◌≤◌, ◌+◌, ◌/◌, ◌^◌, ℕ, Bool, true, false}
use Rattle.kv_nand.specs.declared.fault.MountFault.{MountFault}
use Rattle.kv_nand.specs.declared.fault.MountFault.TheVariants as mount
use Rattle.kv_nand.specs.Flash.{Flash, Image, Erased}
use Rattle.kv_device.specs.Machine.{restarted}
use Rattle.kv_device.specs.declared.fault.DeviceFault.{DeviceFault}
use Rattle.kv_device.specs.declared.fault.DeviceFault.TheVariants as device
use Rattle.kv_device.specs.Calls.{Falls}
use Rattle.kssd_model.specs.OnlyReading.{OnlyReads}
use Rattle.kssd_image.specs.Stages.{the_anchor}
use Rattle.kssd_image.specs.Damages.{IsDamage}
use Rattle.kssd_image.specs.Whole.{Sound, age_in}
use Rattle.kssd_root.specs.Mapping.{IsKept}
use Rattle.kssd_machine.specs.Machines.{resting}

-- the device that was about to be up is down by this fault
abbrev pub FallsBy : Flash → DeviceFault → Flash → Type 0
FallsBy old fault new = Falls (restarted (resting old)) fault (resting new)

-- it only read, and there is this damage; or there was no power, and it changed nothing; or a fault met it, as it meets a device that is up
abbrev pub FailsMounting : Flash → MountFault → Flash → Type 0
FailsMounting old (mount.Damaged damage) new = IsDamage old.blocks old.image damage × OnlyReads old new
FailsMounting old mount.Off new = ((old.powered ≡ false) × OnlyReads old new) ⊎ ((old.powered ≡ true) × FallsBy old device.Off new)
FailsMounting old mount.Failed new = (old.powered ≡ true) × FallsBy old device.Failed new
FailsMounting old mount.Memory new = FallsBy old device.Memory new

-- the block is Erased in which the newest anchor's log begins
abbrev pub IsClean : Image → Type 0
IsClean image = (page : ℕ) → page / 32 ≡ (the_anchor image).log_block → image page ≡ Erased

-- nothing was programmed or erased
pub record IsOnlyRead (old new : Flash) : Type 0 where
  pub image : new.image ≡ old.image
  pub ops : new.ops ≡ old.ops

-- the visible entries and the values are kept, and the age rises by at most 3; and where the log was clean, nothing was programmed or erased
pub record IsSettled (clean : Bool) (old new : Flash) : Type 0 where
  pub blocks : new.blocks ≡ old.blocks
  pub kept : IsKept old.blocks old.image new.image
  pub age : age_in new.image ≤ age_in old.image + 3
  pub idle : clean ≡ true → IsOnlyRead old new

-- whatever the image was: the numbers rose by little, and where it isn't sound, nothing was programmed or erased
pub record IsSpared (old new : Flash) : Type 0 where
  pub blocks : new.blocks ≡ old.blocks
  pub age : age_in new.image ≤ age_in old.image + 2 ^ 20
  pub unsound : (Sound old.blocks old.image → ⊥) → IsOnlyRead old new
