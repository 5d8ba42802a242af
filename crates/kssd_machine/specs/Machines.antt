-- What a flash and the changes of open transactions are as a device.
use Rattle.std.specs.Prelude.{◌≡◌, ◌≤◌, ℕ, Bool, true, false, [], ◌∷◌, length, map, option_map, None, if◌then◌else◌}
use Rattle.kv_nand.specs.Flash.{Flash, Image}
use Rattle.kv_nand.specs.Flash as flash_words
use Rattle.kv_nand.specs.Working.{Works}
use Rattle.kv_device.specs.Machine as device
use Rattle.kv_device.specs.Machine.{Machine, none_open, down, restarted}
use Rattle.kv_device.specs.Calls.{IsSound}
use Rattle.kssd_layout.specs.Numbers.{max_keys_in, max_pages_in}
use Rattle.kssd_model.specs.OnlyReading.{OnlyReads}
use Rattle.kssd_image.specs.Stages.{objects_in, changes_of}
use Rattle.kssd_image.specs.Whole.{IsWhole}
use Rattle.kssd_frames.specs.Same.{IsSameAt}
use Rattle.kssd_tx.specs.Lists.{Transactions}
use Rattle.kssd_machine.specs.Names.{times_pending}

-- the changes of the open transactions as changes of objects
abbrev pub pending_in : Image → Transactions → device.Transactions
pending_in image lists = map (option_map (changes_of image)) lists

-- no transaction is open
abbrev pub no_lists : Transactions
no_lists = None ∷ None ∷ None ∷ None ∷ []

-- the device on this flash with these transactions, none of which is open while it is down
abbrev pub machine_of : Flash → Bool → Transactions → Machine
machine_of flash up lists = record {
  up = up;
  stable = objects_in flash.image;
  pending = if up then pending_in flash.image lists else none_open;
  cuts = flash.cuts;
  faults = flash.faults;
  most_cuts = flash.most_cuts;
  most_faults = flash.most_faults;
  room_keys = max_keys_in flash.blocks;
  room_pages = max_pages_in flash.blocks;
}

-- the device that is down on this flash
abbrev pub resting : Flash → Machine
resting flash = machine_of flash false no_lists

-- blocks, counts and their bounds are the same
pub record SameCounts (old new : Flash) : Type 0 where
  pub blocks : new.blocks ≡ old.blocks
  pub cuts : new.cuts ≡ old.cuts
  pub faults : new.faults ≡ old.faults
  pub most_cuts : new.most_cuts ≡ old.most_cuts
  pub most_faults : new.most_faults ≡ old.most_faults

-- the pages that changes of open transactions name count for the same
abbrev pub ArePendingSame : Image → Image → Transactions → Type 0
ArePendingSame old new lists = (page : ℕ) → 1 ≤ times_pending page lists → IsSameAt old new page

-- the device stays where counts, objects and the pages of pending changes do, so after mere reading; it is sound; and down or up again it has nothing pending
pub record MachineStays : Type 0 where
  pub stays : (old new : Flash) (up : Bool) (lists : Transactions) → SameCounts old new → objects_in new.image ≡ objects_in old.image → ArePendingSame old.image new.image lists → machine_of new up lists ≡ machine_of old up lists
  pub pending : (old new : Image) (lists : Transactions) → ArePendingSame old new lists → pending_in new lists ≡ pending_in old lists
  pub works : (old new : Flash) (ops reads : ℕ) → Works old new ops reads → SameCounts old new
  pub reading : (old new : Flash) (up : Bool) (lists : Transactions) → OnlyReads old new → machine_of new up lists ≡ machine_of old up lists
  pub downs : (flash : Flash) (up : Bool) (lists other : Transactions) → machine_of flash false other ≡ down (machine_of flash up lists)
  pub mounted : (flash : Flash) → machine_of flash true no_lists ≡ restarted (resting flash)
  pub sound : (flash : Flash) (up : Bool) (lists : Transactions) → flash_words.IsSound flash → IsWhole flash.blocks flash.image → length lists ≡ 4 → IsSound (machine_of flash up lists)
