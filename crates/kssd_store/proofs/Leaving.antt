-- What is left where a value isn't set.
use Rattle.std.proofs.Common.{◌≡◌, ◌≤◌, ◌∙◌, ℕ, Bool, true, false, cond, List, Option, Some, None, refl, sym, ap, subst, arith}
use Rattle.kv_nand.specs.declared.fault.FlashFault.{FlashFault}
use Rattle.kv_nand.specs.Flash.{Flash, IsSound}
use Rattle.kv_nand.specs.Working.{Stops}
use Rattle.kv_device.specs.Machine.{Machine}
use Rattle.kv_device.specs.Calls.{SetFault}
use Rattle.kv_device.specs.declared.fault.DeviceFault.{DeviceFault}
use Rattle.kssd_image.specs.Stages.{objects_in}
use Rattle.kssd_tx.specs.Refusals.{set_refusal}
use Rattle.kssd_index.proofs.Anchored.{aged_still}
use Rattle.kssd_machine.specs.Names.{are_rising}
use Rattle.kssd_machine.specs.Machines.{resting}
use Rattle.kssd_machine.specs.Faults.{device_fault}
use Rattle.kssd_machine.specs.Calling.{value_refusal}
use Rattle.kssd_machine.proofs.Falling.{working}
use Rattle.kssd_machine.proofs.Transacting.{setting_refused, setting_fallen}
use Rattle.kssd_mounted.specs.declared.mounted.Mounted.{Mounted}
use Rattle.kssd_mounted.proofs.Staying.{device_fault_down}
use Rattle.kssd_mounted.specs.Standing.{Stands, Leaves, mounted_age, machine_at, machine_after, takes_down}

-- a device that stands leaves what it stands on
pub still_leaves : (m : Mounted) (flash : Flash) (age : ℕ) → Stands m flash → mounted_age m ≤ age → Leaves flash age flash
still_leaves m flash age stands below = record {
  blocks = refl;
  whole = stands.whole;
  age_is = let aged = aged_still m.index flash.blocks flash.image stands.index in omega arith;
}

-- where a device stays up after a fault, it is as before
pub refused_is : (m : Mounted) (flash : Flash) (tx : ℕ) (key value : List ℕ) (fault : DeviceFault) → are_rising m.changes ≡ true → takes_down fault ≡ false → value_refusal m.changes tx key value (set_refusal m.changes tx key) ≡ Some fault
    → SetFault (machine_at flash m) tx key value fault (machine_after fault flash m)
refused_is m flash tx key value fault rising up is =
    subst (λ (after : Machine). SetFault (machine_at flash m) tx key value fault after)
    (sym (ap (λ (b : Bool). cond b (resting flash) (machine_at flash m)) up))
    (setting_refused flash m.changes tx key value fault rising is)

-- where a call stopped by a fault of the flash, the device is down with the objects that it had
pub fallen_is : (m n : Mounted) (old new : Flash) (tx : ℕ) (key value : List ℕ) (fault : FlashFault) (ops reads : ℕ) (first : Option DeviceFault) → Stands m old → first ≡ value_refusal m.changes tx key value (set_refusal m.changes tx key) → first ≡ None → IsSound new → Stops old fault new ops reads → objects_in new.image ≡ objects_in old.image
    → SetFault (machine_at old m) tx key value (device_fault fault) (machine_after (device_fault fault) new n)
fallen_is m n old new tx key value fault ops reads first stands is none sound stops same =
    subst (λ (after : Machine). SetFault (machine_at old m) tx key value (device_fault fault) after)
    (sym (ap (λ (b : Bool). cond b (resting new) (machine_at new n)) (device_fault_down fault)))
    (setting_fallen old m.changes tx key value (device_fault fault) (resting new) stands.rising (sym is ∙ none) (working old new m.changes fault ops reads sound stands.powered stops same))

-- a bound on numbers may be higher
pub leaves_within : (old new : Flash) (age limit : ℕ) → Leaves old age new → age ≤ limit → Leaves old limit new
leaves_within old new age limit leaves below = record { blocks = leaves.blocks; whole = leaves.whole; age_is = let is = leaves.age_is in omega arith }
