-- What is known of an end before it begins.
use Rattle.std.specs.Prelude.{◌≡◌, ℕ, Bool, true, ◌&&◌, nat_le}
use Rattle.std.specs.List.{AllByRecursion}
use Rattle.std.specs.FinMap as objects
use Rattle.kv_nand.specs.Flash.{Flash}
use Rattle.kv_device.specs.Machine.{view}
use Rattle.kv_device.specs.Objects.{page_count}
use Rattle.kssd_layout.specs.Numbers.{max_keys_in, max_pages_in}
use Rattle.kssd_entry.specs.Spelling.{FitsEntry}
use Rattle.kssd_image.specs.Stages.{shown_in}
use Rattle.kssd_tx.specs.Lists.{changes_of}
use Rattle.kssd_machine.specs.Sizes.{replaced}
use Rattle.kssd_mounted.specs.declared.mounted.Mounted.{Mounted}
use Rattle.kssd_mounted.specs.Standing.{machine_at}
use Rattle.kssd_commit.specs.declared.judging.Judged.{Judged}

-- the visible entries that the changes replace, and the numbers of objects and of values in pages as the transaction sees them
pub record IsJudged (judged : Judged) (m : Mounted) (tx : ℕ) (flash : Flash) : Type 0 where
  pub replaced_are : judged.replaced ≡ replaced (shown_in flash.image) (changes_of m.changes tx)
  pub keys : judged.keys ≡ objects.len (view (machine_at flash m) tx)
  pub pages : judged.pages ≡ page_count (view (machine_at flash m) tx)
  pub fits : AllByRecursion FitsEntry (changes_of m.changes tx)

-- whether a device of so many blocks has room for so many keys, and so many values in pages
abbrev pub is_room_for : ℕ → ℕ → ℕ → Bool
is_room_for blocks keys pages = nat_le keys (max_keys_in blocks) && nat_le pages (max_pages_in blocks)

-- a device of so many blocks has room for what there is after an end
abbrev pub HasRoomFor : Judged → ℕ → Type 0
HasRoomFor judged blocks = is_room_for blocks judged.keys judged.pages ≡ true
