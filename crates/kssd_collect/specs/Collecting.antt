-- A device whose block of values is being collected.
use Rattle.std.specs.Prelude.{◌≡◌, ◌≢◌, ◌⊎◌, ◌≤◌, ◌<◌, ◌+◌, ◌/◌, ◌^◌, [], ℕ, Bool, true, false, length, None}
use Rattle.kv_nand.specs.Flash.{Flash}
use Rattle.kv_nand.specs.Working.{Works, ops_more}
use Rattle.kssd_image.specs.Stages.{shown_in}
use Rattle.kssd_image.specs.Whole.{pages_named, IsWhole}
use Rattle.kssd_model.specs.Rising.{merged}
use Rattle.kssd_values.specs.declared.values.Values.{Values}
use Rattle.kssd_values.specs.Blocks.{device_of, is_live_at, open_room, has_target, target_next, free_count, IsClosed}
use Rattle.kssd_values.specs.Pages.{Fills}
use Rattle.kssd_index.specs.Standing.{IsIndex}
use Rattle.kssd_index.specs.Costs.{has_place_in}
use Rattle.kssd_reclaim.specs.declared.reclaim.Reclaim.{Reclaim}
use Rattle.kssd_reclaim.specs.Reclaim.{block_of, moves_of, AllCopied}
use Rattle.kssd_machine.specs.Names.{are_rising, are_valued}
use Rattle.kssd_machine.specs.Marked.{AreMarked, HasBlock}
use Rattle.kssd_mounted.specs.declared.mounted.Mounted.{Mounted}
use Rattle.kssd_collect.specs.Copied.{HasCopies}

-- a device stands on a flash, though its collection is taken out and a block may be being copied into
pub record IsBusy (m : Mounted) (flash : Flash) : Type 0 where
  pub powered : flash.powered ≡ true
  pub taken : m.collection ≡ None
  pub least : 256 ≤ flash.blocks
  pub most : flash.blocks ≤ 2048
  pub whole : IsWhole flash.blocks flash.image
  pub index : IsIndex m.index flash.blocks flash.image
  pub device : device_of m.values ≡ flash.blocks
  pub fills : Fills m.values flash.image
  pub four : length m.changes ≡ 4
  pub rising : are_rising m.changes ≡ true
  pub valued : are_valued flash.blocks flash.image m.changes ≡ true
  pub marked : AreMarked m.values (shown_in flash.image) m.changes
  pub block : HasBlock m.values
  pub keys : m.keys ≡ length (shown_in flash.image)
  pub pages : m.pages ≡ length (pages_named (shown_in flash.image))

-- pages of a block are copied, and none of the copies is named yet
pub record IsCollected (r : Reclaim) (m : Mounted) (flash : Flash) : Type 0 where
  pub busy : IsBusy m flash
  pub copies : HasCopies r m.values flash.image

-- all pages of a block are copied, and none of the copies is named yet
pub record IsCopied (r : Reclaim) (m : Mounted) (flash : Flash) : Type 0 where
  pub busy : IsBusy m flash
  pub copies : HasCopies r m.values flash.image
  pub all : AllCopied r m.values

-- the copies are named in the place of the block's pages, and none of these is named any more
pub record IsEmptied (r : Reclaim) (m : Mounted) (flash : Flash) : Type 0 where
  pub busy : IsBusy m flash
  pub closed : IsClosed m.values (block_of r)
  pub dead : (page : ℕ) → page / 32 ≡ block_of r → is_live_at m.values page ≡ false
  pub room : target_next m.values < 32

-- whether the group that names the copies has place in the log
abbrev pub has_place_for : Reclaim → Mounted → Bool
has_place_for r m = has_place_in m.index (merged (moves_of r m.values) [])

-- as many blocks are free, and a block is being copied into or not as before
pub record IsUsedTheSame (v w : Values) : Type 0 where
  pub target : has_target w ≡ has_target v
  pub free : free_count w ≡ free_count v

-- after a collection the open block has an Erased page, or no block was copied into and one more is free
abbrev pub FreesBlock : Values → Values → Type 0
FreesBlock v w = (open_room w ≢ 0) ⊎ ((has_target v ≡ false) × (free_count w ≡ free_count v + 1))

-- a collection has ended with one to four operations
pub record EndsInFew (old new : Flash) : Type 0 where
  pub ops : ℕ
  pub some : 1 ≤ ops
  pub few : ops ≤ 4
  pub works : Works old new 4 (2 ^ 64)
  pub exact : new.ops ≡ ops_more old ops
