-- What a root says of an image, and where the log of its anchor ends.
use Rattle.std.specs.Prelude.{◌≡◌, ◌+◌, ◌*◌, ℕ, List, [], Some}
use Rattle.kv_nand.specs.Flash.{Image, MayProgram}
use Rattle.kssd_entry.specs.declared.entry.Entry.{Entry}
use Rattle.kssd_model.specs.declared.anchor.Anchor.{Anchor}
use Rattle.kssd_model.specs.Anchors.{newest_in}
use Rattle.kssd_model.specs.Groups.{rest_from, turn_count}
use Rattle.kssd_levels.specs.declared.levels.Levels.{Levels}
use Rattle.kssd_levels.specs.Levels.{infos_of, StandLevels}
use Rattle.kssd_log.specs.declared.place.Place.{Place}
use Rattle.kssd_image.specs.Stages.{log_map}
use Rattle.kssd_image.specs.Whole.{IsIndexOf, log_of}
use Rattle.kssd_root.specs.declared.root.Root.{Root}

-- the anchor in this page is the newest, and what it names is what a mount demands, values and the limit on numbers apart
pub record IsAnchored (page : ℕ) (anchor : Anchor) (blocks : ℕ) (image : Image) : Type 0 where
  pub newest : newest_in image ≡ Some (record { page = page; anchor = anchor })
  pub index : IsIndexOf blocks image anchor

-- the runs are those that the anchor names, and each of them stands
pub record AreRuns (levels : Levels) (anchor : Anchor) (blocks : ℕ) (image : Image) : Type 0 where
  pub named : infos_of levels ≡ anchor.runs
  pub stand : StandLevels levels blocks image

-- a root stands in an image of so many blocks: its anchor is the newest, and its runs are the anchor's
pub record IsRoot (root : Root) (blocks : ℕ) (image : Image) : Type 0 where
  pub device : root.layout.blocks ≡ blocks
  pub anchored : IsAnchored root.page root.anchor blocks image
  pub runs : AreRuns root.levels root.anchor blocks image

-- the anchor's log ends at this place behind its last whole group, and all later pages of the place's block are Erased; with the blocks that are left it fills 8
pub record EndsAt (place : Place) (anchor : Anchor) (image : Image) : Type 0 where
  pub page : (log_of image anchor).end ≡ place.page
  pub number : (log_of image anchor).next ≡ place.seq
  pub whole : rest_from [] (log_of image anchor).pages ≡ []
  pub blocks : turn_count (log_of image anchor).pages + place.blocks ≡ 8
  pub free : MayProgram image place.page

-- for each key of the anchor's log its newest entry
abbrev pub table_of : Image → Anchor → List Entry
table_of image anchor = log_map image (32 * anchor.log_block) anchor.log_seq
