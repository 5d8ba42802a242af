-- How much a device holds, as it is counted.
use Rattle.std.specs.Prelude.{◌≡◌, ◌/◌, ◌==◌, not, ℕ, Bool, true, List, length}
use Rattle.std.specs.List.{list_all, list_any, range_with_len}
use Rattle.kv_nand.specs.Flash.{Image}
use Rattle.kssd_layout.specs.Numbers.{first_value_block_in, value_blocks_in}
use Rattle.kssd_model.specs.declared.anchor.Anchor.{Anchor}
use Rattle.kssd_image.specs.Stages.{shown_by}
use Rattle.kssd_image.specs.Whole.{keys_from_level, pages_named, has_its_value}
use Rattle.kssd_recover.specs.declared.limits.Counts.{Counts}
use Rattle.kssd_recover.specs.declared.walking.Visible.{Visible}
use Rattle.kssd_recover.specs.Walk.{within_four_bytes}

-- whether a block of values is left in which none of the pages lies
abbrev pub leaves_block : ℕ → List ℕ → Bool
leaves_block blocks pages = list_any (λ block. list_all (λ page. not ((page / 32) == block)) pages) (range_with_len (first_value_block_in blocks) (value_blocks_in blocks))

-- the visible entries by an anchor: the pages that they name, each the value of the entry that names it, and how many there are
pub record AreVisible (blocks : ℕ) (image : Image) (anchor : Anchor) (visible : Visible) : Type 0 where
  pub places : visible.places ≡ pages_named (shown_by image anchor)
  pub keys : visible.keys ≡ within_four_bytes (length (shown_by image anchor))
  pub values : list_all (has_its_value blocks image) (shown_by image anchor) ≡ true

-- what is counted by an anchor
pub record AreCounts (blocks : ℕ) (image : Image) (anchor : Anchor) (counts : Counts) : Type 0 where
  pub keys : counts.keys ≡ within_four_bytes (length (shown_by image anchor))
  pub upper : counts.upper ≡ within_four_bytes (keys_from_level image anchor 1)
  pub levels : counts.levels ≡ within_four_bytes (keys_from_level image anchor 0)
  pub base : counts.base ≡ within_four_bytes (keys_from_level image anchor 2)
  pub pages : counts.pages ≡ length (pages_named (shown_by image anchor))
  pub spare : counts.is_spare ≡ leaves_block blocks (pages_named (shown_by image anchor))
