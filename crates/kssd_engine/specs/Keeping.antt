-- What a device on flash is as a machine, and what holds of it at all times.
use Rattle.std.specs.Prelude.{◌≡◌, ◌⊎◌, ◌≤◌, ◌+◌, ℕ, max, true, false, refl, Option, Some, None, if◌then◌else◌}
use Rattle.std.specs.Option.{ForSome}
use Rattle.std.proofs.Props.{props}
use Rattle.kv_nand.specs.Flash.{Flash}
use Rattle.kv_nand.specs.Flash as flash_words
use Rattle.kv_device.specs.Machine.{Machine}
use Rattle.kv_device.specs.Calls.{IsSound}
use Rattle.kv_device.specs.declared.fault.DeviceFault.{DeviceFault}
use Rattle.kssd_image.specs.Whole.{IsWhole, age_in}
use Rattle.kssd_image.proofs.Props.{IsWhole-prop}
use Rattle.kssd_machine.specs.Machines.{no_lists, resting}
use Rattle.kssd_machine.proofs.Standing as standing
use Rattle.kssd_mounted.specs.declared.mounted.Mounted.{Mounted}
use Rattle.kssd_mounted.specs.Standing.{Stands, mounted_age, machine_at, takes_down}
use Rattle.kssd_levels.specs.declared.kind.JobKind.{JobKind}
use Rattle.kssd_mounted.proofs.OneProof.{Stands-prop}
use Rattle.kssd_work.specs.Working.{IsDue, HasDone}

-- a device that is up with what it keeps in memory, or down without
abbrev pub machine_in : Flash → Option Mounted → Machine
machine_in flash None = resting flash
machine_in flash (Some mounted) = machine_at flash mounted

-- a mount takes the image of 256 to 2,048 blocks, and no number in it is above the age; while the device is up, what it keeps in memory stands on the flash
pub record IsKept (flash : Flash) (mounted : Option Mounted) (age : ℕ) : Type 0 where
  pub least : 256 ≤ flash.blocks
  pub most : flash.blocks ≤ 2048
  pub whole : IsWhole flash.blocks flash.image
  pub numbers : age_in flash.image ≤ age
  pub stands : ForSome mounted (λ m. Stands m flash)
  pub ages : ForSome mounted (λ m. mounted_age m ≤ age)

-- it holds in one way
pub IsKept-prop : (flash : Flash) (mounted : Option Mounted) (age : ℕ) → IsProp (IsKept flash mounted age)
IsKept-prop flash mounted age = Prim.hlevel (props, IsWhole-prop, Stands-prop)

-- what holds of each device holds of it
pub machine_in-sound : (flash : Flash) (mounted : Option Mounted) (age : ℕ) → flash_words.IsSound flash → IsKept flash mounted age → IsSound (machine_in flash mounted)
machine_in-sound flash None age sound kept = standing.sound flash false no_lists sound kept.whole refl
machine_in-sound flash (Some m) age sound kept = standing.sound flash true m.changes sound kept.whole (kept.stands m refl).four

-- the job that is due: none while the device is down
abbrev pub IsDueIn : Option Mounted → Option JobKind → Type 0
IsDueIn None job = job ≡ None
IsDueIn (Some m) job = IsDue m job

-- nothing is due any more; or all of so many operations were done but for 4 at most
abbrev pub IsWorkedIn : Flash → ℕ → Option Mounted → Flash → Type 0
IsWorkedIn old operations mounted new = IsDueIn mounted None ⊎ HasDone old operations 4 new

-- what a device keeps in memory after a fault
abbrev pub mounted_after : DeviceFault → Option Mounted → Option Mounted
mounted_after fault mounted = if takes_down fault then None else mounted

-- the age after a call that may have raised numbers by so much
abbrev pub age_after : Option Mounted → ℕ → ℕ → ℕ
age_after None age rise = age + rise
age_after (Some m) age rise = max age (mounted_age m)
