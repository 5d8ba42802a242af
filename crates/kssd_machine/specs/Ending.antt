-- The end of a transaction as that of the device.
use Rattle.std.specs.Prelude.{◌≡◌, ◌⊎◌, ◌≤◌, ◌/◌, ℕ, true, false, ◌&&◌, nat_le, List, [], Some, None}
use Rattle.std.specs.List.{AllByRecursion, list_all}
use Rattle.std.specs.FinMap as objects
use Rattle.kv_nand.specs.Flash.{Flash, Image}
use Rattle.kv_nand.specs.Flash as flash_words
use Rattle.kv_device.specs.Machine.{view}
use Rattle.kv_device.specs.Objects.{page_count, seen_through}
use Rattle.kv_device.specs.declared.fault.DeviceFault.TheVariants as faults
use Rattle.kv_device.specs.Calls.{has_room, EndDone, EndFault}
use Rattle.kssd_layout.specs.Numbers.{max_keys_in, max_pages_in, first_value_block_in}
use Rattle.kssd_entry.specs.declared.entry.Entry.{Entry}
use Rattle.kssd_entry.specs.Spelling.{FitsEntry}
use Rattle.kssd_image.specs.Stages as stages
use Rattle.kssd_image.specs.Stages.{shown_in, objects_in}
use Rattle.kssd_image.specs.Whole.{has_its_value, is_value_block, is_unnamed, AreValuesWhole, IsWhole}
use Rattle.kssd_frames.specs.Logging.{shown_after, IsRoomAfter}
use Rattle.kssd_tx.specs.Lists.{Transactions, list_of, changes_of, with_list}
use Rattle.kssd_tx.specs.Refusals.{tx_refusal}
use Rattle.kssd_machine.specs.Names.{are_valued}
use Rattle.kssd_machine.specs.Machines.{machine_of, SameCounts, ArePendingSame}

-- the pages in blocks of values are the same
abbrev pub AreBlocksSame : ℕ → Image → Image → Type 0
AreBlocksSame blocks old new = (page : ℕ) → first_value_block_in blocks ≤ page / 32 → new page ≡ old page

-- where the visible entries are as before, so are the objects; where a group's entries are over them, the objects are those with its changes; and a mount takes the values
pub record EntriesTellTheObjects : Type 0 where
  pub same : (blocks : ℕ) (old new : Image) → AreValuesWhole blocks old (shown_in old) → AreBlocksSame blocks old new → shown_in new ≡ shown_in old → objects_in new ≡ objects_in old
  pub after : (blocks : ℕ) (old new : Image) (entries : List Entry) → list_all (has_its_value blocks old) (shown_after old entries) ≡ true → AreBlocksSame blocks old new → shown_in new ≡ shown_after old entries
      → objects_in new ≡ seen_through (stages.changes_of old entries) (objects_in old)
  pub either : (blocks : ℕ) (old new : Image) (entries : List Entry) → AreValuesWhole blocks old (shown_in old) → list_all (has_its_value blocks old) (shown_after old entries) ≡ true → AreBlocksSame blocks old new
      → (shown_in new ≡ shown_in old) ⊎ (shown_in new ≡ shown_after old entries) → (objects_in new ≡ objects_in old) ⊎ (objects_in new ≡ seen_through (stages.changes_of old entries) (objects_in old))
  pub whole : (blocks : ℕ) (old new : Image) (entries : List Entry) → AreValuesWhole blocks old (shown_in old) → AreValuesWhole blocks old (shown_after old entries) → AreBlocksSame blocks old new
      → (shown_in new ≡ shown_in old) ⊎ (shown_in new ≡ shown_after old entries) → AreValuesWhole blocks new (shown_in new)
  pub values : (blocks : ℕ) (old new : Image) (entries : List Entry) → AreValuesWhole blocks old entries → AreBlocksSame blocks old new → AreValuesWhole blocks new entries
  pub valued : (blocks : ℕ) (old new : Image) (entries : List Entry) → AreBlocksSame blocks old new → list_all (has_its_value blocks old) entries ≡ true → list_all (has_its_value blocks new) entries ≡ true
  pub pending : (blocks : ℕ) (old new : Image) (lists : Transactions) → are_valued blocks old lists ≡ true → AreBlocksSame blocks old new → ArePendingSame old new lists

-- the end is that of the device: it is full by both numbers, and there is room by them; its group has the room that a mount demands; and after the group it is over
pub record EndsAgree : Type 0 where
  pub seen : (flash : Flash) (lists : Transactions) (tx : ℕ) → view (machine_of flash true lists) tx ≡ seen_through (stages.changes_of flash.image (changes_of lists tx)) (objects_in flash.image)
  pub full : (flash : Flash) (lists : Transactions) (tx keys pages : ℕ) → tx_refusal lists tx ≡ None → keys ≡ objects.len (view (machine_of flash true lists) tx) → pages ≡ page_count (view (machine_of flash true lists) tx)
      → (nat_le keys (max_keys_in flash.blocks) && nat_le pages (max_pages_in flash.blocks)) ≡ false → EndFault (machine_of flash true lists) tx (faults.Full keys pages) (machine_of flash true lists)
  pub room : (flash : Flash) (lists : Transactions) (tx keys pages : ℕ) → keys ≡ objects.len (view (machine_of flash true lists) tx) → pages ≡ page_count (view (machine_of flash true lists) tx)
      → (nat_le keys (max_keys_in flash.blocks) && nat_le pages (max_pages_in flash.blocks)) ≡ true → has_room (machine_of flash true lists) (view (machine_of flash true lists) tx) ≡ true
  pub group : (flash : Flash) (lists : Transactions) (tx block : ℕ) → flash_words.IsSound flash → IsWhole flash.blocks flash.image → 256 ≤ flash.blocks → are_valued flash.blocks flash.image lists ≡ true → AllByRecursion FitsEntry (changes_of lists tx)
      → has_room (machine_of flash true lists) (view (machine_of flash true lists) tx) ≡ true → is_value_block flash.blocks block ≡ true → is_unnamed (shown_after flash.image (changes_of lists tx)) block ≡ true
      → IsRoomAfter flash.blocks flash.image (changes_of lists tx)
  pub done : (old new : Flash) (lists : Transactions) (tx : ℕ) → tx_refusal lists tx ≡ None → has_room (machine_of old true lists) (view (machine_of old true lists) tx) ≡ true → SameCounts old new
      → objects_in new.image ≡ view (machine_of old true lists) tx → ArePendingSame old.image new.image (with_list lists tx None) → EndDone (machine_of old true lists) tx (machine_of new true (with_list lists tx None))
  pub idle : (flash : Flash) (lists : Transactions) (tx : ℕ) → flash_words.IsSound flash → IsWhole flash.blocks flash.image → list_of lists tx ≡ Some [] → EndDone (machine_of flash true lists) tx (machine_of flash true (with_list lists tx None))
