-- What a mount demands of an image: of its index, which are the anchor, the runs and the log, and of its values.
use Rattle.std.specs.Prelude.{◌≡◌, ◌≤◌, ◌*◌, ◌/◌, ◌-◌, ◌==◌, ℕ, max, Bool, true, not, ◌&&◌, nat_le, nat_lt, List, [], ◌∷◌, length, filter, is_some, Option, Some, None}
use Rattle.std.specs.List.{All, list_all, list_any, flat_map, range_with_len}
use Rattle.kv_nand.specs.Flash.{Image}
use Rattle.kssd_layout.specs.Numbers.{max_keys_in, max_pages_in, value_blocks_in, first_value_block_in}
use Rattle.kssd_entry.specs.declared.entry.Entry.{Entry}
use Rattle.kssd_entry.specs.declared.entry.Entry.TheVariants.{Put, At, Gone}
use Rattle.kssd_model.specs.declared.anchor.Anchor.{Anchor}
use Rattle.kssd_model.specs.declared.anchor.Found.{Found}
use Rattle.kssd_model.specs.Anchors.{newest_in}
use Rattle.kssd_model.specs.RunPages.{IsGoodRun}
use Rattle.kssd_model.specs.Groups.{Walk, Ends, seen, log_in, AreAllowed}
use Rattle.kssd_image.specs.ValuePages.{has_value}
use Rattle.kssd_image.specs.Stages.{the_anchor, runs_map, without_marks, shown_by, shown_in}
use Rattle.kssd_image.specs.AnchorForm.{IsAnchorForm, anchor_age, HasLowNumbers}

-- ---- the log

-- the pages of an anchor's log, and where it ends
abbrev pub log_of : Image → Anchor → Walk
log_of image anchor = log_in image (32 * anchor.log_block) anchor.log_seq

-- a log is within its limits, and what ends it is no log page
pub record IsLogWhole (image : Image) (log : Walk) : Type 0 where
  pub allowed : AreAllowed log.pages
  pub ends : seen log.end log.next (image log.end) ≡ Ends

-- ---- how much there is

-- the keys of the runs on this level and on those behind it, deletion marks apart
abbrev pub keys_from_level : Image → Anchor → ℕ → ℕ
keys_from_level image anchor least = length (without_marks (runs_map image (filter (λ run. nat_le least run.level) anchor.runs)))

-- the page that an entry names for its value, if it names one
abbrev pub page_named : Entry → List ℕ
page_named (Put key value) = []
page_named (At key page size) = page ∷ []
page_named (Gone key) = []

-- the pages that entries name for their values
abbrev pub pages_named : List Entry → List ℕ
pages_named entries = flat_map page_named entries

-- no more keys than the device has room for: in all, on the levels without the log, on level 1 with the base, and in the base; and no more values in pages
pub record HasRoom (blocks : ℕ) (image : Image) (anchor : Anchor) : Type 0 where
  pub keys : length (shown_by image anchor) ≤ max_keys_in blocks
  pub levels : keys_from_level image anchor 0 ≤ max_keys_in blocks
  pub upper : keys_from_level image anchor 1 ≤ max_keys_in blocks
  pub base : keys_from_level image anchor 2 ≤ max_keys_in blocks
  pub pages : length (pages_named (shown_by image anchor)) ≤ max_pages_in blocks

-- ---- the index

-- what a mount demands of what an anchor names, values and the limit on numbers apart
pub record IsIndexOf (blocks : ℕ) (image : Image) (anchor : Anchor) : Type 0 where
  pub form : IsAnchorForm blocks anchor
  pub runs : All (IsGoodRun image) anchor.runs
  pub log : IsLogWhole image (log_of image anchor)
  pub room : HasRoom blocks image anchor

-- ---- the values

-- whether the block is one of values
abbrev pub is_value_block : ℕ → ℕ → Bool
is_value_block blocks block = nat_le (first_value_block_in blocks) block && nat_lt block blocks

-- whether an entry that names a page for its value names, in a block of values, the page of its key and length
abbrev pub has_its_value : ℕ → Image → Entry → Bool
has_its_value blocks image (Put key value) = true
has_its_value blocks image (At key page size) = is_value_block blocks (page / 32) && has_value key size (image page)
has_its_value blocks image (Gone key) = true

-- whether no entry names a page of the block
abbrev pub is_unnamed : List Entry → ℕ → Bool
is_unnamed entries block = list_all (λ page. not (page / 32 == block)) (pages_named entries)

-- whether entries leave a block of values without a named page
unfoldable pub leaves_a_block : ℕ → List Entry → Bool
leaves_a_block blocks entries = list_any (is_unnamed entries) (range_with_len (first_value_block_in blocks) (value_blocks_in blocks))

-- what a mount demands of the values of these entries
pub record AreValuesWhole (blocks : ℕ) (image : Image) (entries : List Entry) : Type 0 where
  pub pages : list_all (has_its_value blocks image) entries ≡ true
  pub spare : leaves_a_block blocks entries ≡ true

-- ---- the image

-- what a mount demands of an image, the limit on numbers apart
pub record IsWhole (blocks : ℕ) (image : Image) : Type 0 where
  pub found : is_some (newest_in image) ≡ true
  pub index : IsIndexOf blocks image (the_anchor image)
  pub values : AreValuesWhole blocks image (shown_in image)

-- what a mount demands of an image
pub record Sound (blocks : ℕ) (image : Image) : Type 0 where
  pub whole : IsWhole blocks image
  pub numbers : HasLowNumbers (the_anchor image)

-- the greatest number of an anchor and of the pages of its log
abbrev pub age_by : Image → Anchor → ℕ
age_by image anchor = max (anchor_age anchor) ((log_of image anchor).next - 1)

-- the same where an anchor was found, and 0 without one
abbrev pub age_of : Image → Option Found → ℕ
age_of image None = 0
age_of image (Some found) = age_by image found.anchor

-- the greatest number of eight bytes in the newest anchor and in the pages of its log
unfoldable pub age_in : Image → ℕ
age_in image = age_of image (newest_in image)
