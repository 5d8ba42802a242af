-- What entries make of the objects of an image.
use Rattle.std.specs.Prelude.{◌≡◌, ◌≤◌, ℕ, true, false, List, length, map, Some}
use Rattle.std.specs.List.{AllByRecursion, list_all}
use Rattle.std.specs.FinMap as objects
use Rattle.kv_nand.specs.Flash.{Image}
use Rattle.kv_device.specs.Objects.{seen_through, page_count}
use Rattle.kssd_entry.specs.declared.entry.Entry.{Entry}
use Rattle.kssd_entry.specs.Spelling.{key_of, FitsEntry}
use Rattle.kssd_model.specs.Rising.{is_gone, is_rising, merged}
use Rattle.kssd_image.specs.Stages.{without_marks, value_in, object_in, objects_in, change_in, changes_of}
use Rattle.kssd_image.specs.Whole.{pages_named, has_its_value, is_value_block, is_unnamed, leaves_a_block}
use Rattle.kssd_model.specs.GroupsLaws.{HasBytes}
use Rattle.kssd_frames.specs.Same.{AreSameValues}
use Rattle.kssd_frames.specs.Logging.{shown_after}

-- an entry has the value that its key's object has already
pub record IsMove (image : Image) (entry : Entry) : Type 0 where
  pub kept : is_gone entry ≡ false
  pub same : objects.get (objects_in image) (key_of entry) ≡ Some (value_in image entry)

-- the visible entries after a group are the objects with its changes; entries by rising keys make one change each; and moves of values to other pages leave the objects
pub record EntriesAreChanges : Type 0 where
  pub after : (image : Image) (entries : List Entry) → objects.from_sorted (map (object_in image) (shown_after image entries)) ≡ seen_through (changes_of image entries) (objects_in image)
  pub each : (image : Image) (entries : List Entry) → is_rising entries ≡ true → objects.entries (changes_of image entries) ≡ map (change_in image) entries
  pub count : (image : Image) (entries : List Entry) → is_rising entries ≡ true → objects.len (changes_of image entries) ≡ length entries
  pub moves : (image : Image) (entries : List Entry) → AllByRecursion (IsMove image) entries → seen_through (changes_of image entries) (objects_in image) ≡ objects_in image
  pub stays : (old new : Image) (entries : List Entry) → is_rising entries ≡ true → AreSameValues old new entries → changes_of new entries ≡ changes_of old entries

-- how large the objects after a group are; its values and those before are whole; and a block that no entry names is one that is left
pub record RoomIsJudgedByObjects : Type 0 where
  pub keys : (image : Image) (entries : List Entry) → objects.len (seen_through (changes_of image entries) (objects_in image)) ≡ length (shown_after image entries)
  pub pages : (blocks : ℕ) (image : Image) (entries : List Entry) → HasBytes image → AllByRecursion FitsEntry entries → list_all (has_its_value blocks image) (shown_after image entries) ≡ true → page_count (seen_through (changes_of image entries) (objects_in image)) ≡ length (pages_named (shown_after image entries))
  pub values : (blocks : ℕ) (image : Image) (entries older : List Entry) → list_all (has_its_value blocks image) entries ≡ true → list_all (has_its_value blocks image) older ≡ true → list_all (has_its_value blocks image) (without_marks (merged entries older)) ≡ true
  pub block : (blocks : ℕ) (entries : List Entry) (block : ℕ) → 256 ≤ blocks → is_value_block blocks block ≡ true → is_unnamed entries block ≡ true → leaves_a_block blocks entries ≡ true
