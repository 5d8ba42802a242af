-- The visible entries of an image and its objects.
use Rattle.std.specs.Prelude.{◌≡◌, ℕ, true, nat_eq, List, ◌++◌, map, length}
use Rattle.std.specs.List.{AllByRecursion, IsDistinct, list_all}
use Rattle.std.specs.Option.{option_map}
use Rattle.std.specs.FinMap as objects
use Rattle.kv_nand.specs.Flash.{Image}
use Rattle.kv_device.specs.Objects.{page_count}
use Rattle.kssd_entry.specs.declared.entry.Entry.{Entry}
use Rattle.kssd_entry.specs.Spelling.{FitsEntry}
use Rattle.kssd_model.specs.declared.runs.RunInfo.{RunInfo}
use Rattle.kssd_model.specs.declared.anchor.Anchor.{Anchor}
use Rattle.kssd_model.specs.GroupsLaws.{HasBytes}
use Rattle.kssd_model.specs.Rising as merging
use Rattle.kssd_model.specs.Rising.{is_rising, find_entry}
use Rattle.kssd_image.specs.Stages.{runs_map, log_map, merged_by, shown_by, shown_in, value_in, object_in, objects_in}
use Rattle.kssd_image.specs.Whole.{pages_named, has_its_value, IsWhole}

-- at each stage the keys rise, whatever the image is, and the map of earlier runs stands over that of later ones
pub record StagesRise : Type 0 where
  pub runs : (image : Image) (runs : List RunInfo) → is_rising (runs_map image runs) ≡ true
  pub log : (image : Image) (page number : ℕ) → is_rising (log_map image page number) ≡ true
  pub merged : (image : Image) (anchor : Anchor) → is_rising (merged_by image anchor) ≡ true
  pub shown : (image : Image) (anchor : Anchor) → is_rising (shown_by image anchor) ≡ true
  pub over : (image : Image) (early late : List RunInfo) → runs_map image (early ++ late) ≡ merging.merged (runs_map image early) (runs_map image late)

-- the objects are the visible entries, one each, in their order
pub record ObjectsAreShown : Type 0 where
  pub entries : (image : Image) → objects.entries (objects_in image) ≡ map (object_in image) (shown_in image)
  pub get : (image : Image) (key : List ℕ) → objects.get (objects_in image) key ≡ option_map (value_in image) (find_entry (shown_in image) key)
  pub count : (image : Image) → objects.len (objects_in image) ≡ length (shown_in image)

-- entries that the flash holds have the sizes of their type
abbrev pub EntriesFit : Type 0
EntriesFit = (image : Image) (anchor : Anchor) → HasBytes image → AllByRecursion FitsEntry (merged_by image anchor) × AllByRecursion FitsEntry (shown_by image anchor)

-- a page is named for one value, and each value with a page of its own is one that is named
pub record PagesAreNamedOnce : Type 0 where
  pub distinct : (blocks : ℕ) (image : Image) (entries : List Entry) → is_rising entries ≡ true → list_all (has_its_value blocks image) entries ≡ true → IsDistinct nat_eq (pages_named entries)
  pub counted : (blocks : ℕ) (image : Image) → HasBytes image → IsWhole blocks image → page_count (objects_in image) ≡ length (pages_named (shown_in image))
