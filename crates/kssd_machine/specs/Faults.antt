-- Faults of the flash as faults of the device.
use Rattle.std.specs.Prelude.{◌≡◌, ◌⊎◌, ℕ, true}
use Rattle.kv_nand.specs.declared.fault.FlashFault.{FlashFault}
use Rattle.kv_nand.specs.declared.fault.FlashFault.TheVariants as flash
use Rattle.kv_nand.specs.Flash.{Flash, IsSound}
use Rattle.kv_nand.specs.Working.{Stops}
use Rattle.kssd_model.specs.OnlyReading.{StopsReading}
use Rattle.kv_device.specs.declared.fault.DeviceFault.{DeviceFault}
use Rattle.kv_device.specs.declared.fault.DeviceFault.TheVariants as device
use Rattle.kv_device.specs.Objects.{Objects}
use Rattle.kv_device.specs.Calls.{has_room, Falls, FallsReading, FallsEnding}
use Rattle.kssd_image.specs.Stages.{objects_in}
use Rattle.kssd_tx.specs.Lists.{Transactions}
use Rattle.kssd_machine.specs.Machines.{machine_of, resting}

-- the device's fault where the flash has one
abbrev pub device_fault : FlashFault → DeviceFault
device_fault flash.Off = device.Off
device_fault flash.Failed = device.Failed
device_fault flash.Memory = device.Memory

-- where a call stops by a fault of the flash, which had power, and the device is down then, it is that fault of the device: in a call that reads, in one that programs and erases and leaves the objects, and in an end, which leaves them or makes its changes
pub record FaultsAgree : Type 0 where
  pub reading : (old new : Flash) (lists : Transactions) (fault : FlashFault) → IsSound new → old.powered ≡ true → StopsReading old fault new → FallsReading (machine_of old true lists) (device_fault fault) (resting new)
  pub working : (old new : Flash) (lists : Transactions) (fault : FlashFault) (ops reads : ℕ) → IsSound new → old.powered ≡ true → Stops old fault new ops reads → objects_in new.image ≡ objects_in old.image → Falls (machine_of old true lists) (device_fault fault) (resting new)
  pub ending : (old new : Flash) (lists : Transactions) (after : Objects) (fault : FlashFault) (ops reads : ℕ) → IsSound new → old.powered ≡ true → Stops old fault new ops reads
      → (objects_in new.image ≡ objects_in old.image) ⊎ (objects_in new.image ≡ after) → has_room (machine_of old true lists) after ≡ true → FallsEnding after (machine_of old true lists) (device_fault fault) (resting new)
