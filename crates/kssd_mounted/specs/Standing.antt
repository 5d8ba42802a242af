-- What a device that is up says of the flash that is lent to it, and what it is as a machine.
use Rattle.std.specs.Prelude.{◌≡◌, ◌≤◌, ℕ, Bool, true, false, length, if◌then◌else◌}
use Rattle.kv_nand.specs.Flash.{Flash}
use Rattle.kv_device.specs.Machine.{Machine}
use Rattle.kv_device.specs.declared.fault.DeviceFault.{DeviceFault}
use Rattle.kv_device.specs.declared.fault.DeviceFault.TheVariants.{NoTx, Busy, TxFull, Full, BadSize, Off, Failed, Memory}
use Rattle.kssd_image.specs.Stages.{shown_in}
use Rattle.kssd_image.specs.Whole.{pages_named, IsWhole, age_in}
use Rattle.kssd_values.specs.Blocks.{device_of}
use Rattle.kssd_values.specs.Pages.{Fills}
use Rattle.kssd_index.specs.Standing.{IsIndex, index_age}
use Rattle.kssd_machine.specs.Names.{are_rising, are_valued}
use Rattle.kssd_machine.specs.Machines.{machine_of, resting}
use Rattle.kssd_machine.specs.Marked.{AreMarked, HasBlock}
use Rattle.kssd_mounted.specs.declared.mounted.Mounted.{Mounted}
use Rattle.kssd_mounted.specs.Collections.{CollectsIn}

-- a device stands on a flash with power that a mount takes: its index and values are the image's, each pending value stands in its page, a block is copied into only for the collection under way, a page has the mark of the entry that names it, there are four transactions, open or not, and the two counts are those of the visible entries
pub record Stands (m : Mounted) (flash : Flash) : Type 0 where
  pub powered : flash.powered ≡ true
  pub least : 256 ≤ flash.blocks
  pub most : flash.blocks ≤ 2048
  pub whole : IsWhole flash.blocks flash.image
  pub index : IsIndex m.index flash.blocks flash.image
  pub device : device_of m.values ≡ flash.blocks
  pub fills : Fills m.values flash.image
  pub collecting : CollectsIn m.collection m.values flash.image
  pub four : length m.changes ≡ 4
  pub rising : are_rising m.changes ≡ true
  pub valued : are_valued flash.blocks flash.image m.changes ≡ true
  pub marked : AreMarked m.values (shown_in flash.image) m.changes
  pub block : HasBlock m.values
  pub keys : m.keys ≡ length (shown_in flash.image)
  pub pages : m.pages ≡ length (pages_named (shown_in flash.image))

-- at least the greatest number of eight bytes in the newest anchor and in the pages of its log
abbrev pub mounted_age : Mounted → ℕ
mounted_age m = index_age m.index

-- the device that is up, as a machine
abbrev pub machine_at : Flash → Mounted → Machine
machine_at flash m = machine_of flash true m.changes

-- whether a device is down after a fault; after the others it is as before
abbrev pub takes_down : DeviceFault → Bool
takes_down NoTx = false
takes_down Busy = false
takes_down TxFull = false
takes_down (Full keys pages) = false
takes_down BadSize = false
takes_down Off = true
takes_down Failed = true
takes_down Memory = true

-- the machine after a fault
abbrev pub machine_after : DeviceFault → Flash → Mounted → Machine
machine_after fault flash m = if takes_down fault then resting flash else machine_at flash m

-- a mount takes what a call leaves, and no number in it is above this one
pub record Leaves (old : Flash) (age : ℕ) (new : Flash) : Type 0 where
  pub blocks : new.blocks ≡ old.blocks
  pub whole : IsWhole new.blocks new.image
  pub age_is : age_in new.image ≤ age
