-- What is left of a device's space while it is up.
use Rattle.std.specs.Prelude.{◌≡◌, ◌≤◌, ◌<◌, ◌-◌, ◌*◌, ℕ, true, false, length}
use Rattle.kv_nand.specs.Flash.{Flash}
use Rattle.kssd_layout.specs.Numbers.{max_keys_in, value_blocks_in}
use Rattle.kssd_model.specs.Rising.{merged}
use Rattle.kssd_image.specs.Stages.{the_anchor, runs_map, without_marks, shown_in}
use Rattle.kssd_image.specs.Whole.{keys_from_level, leaves_a_block}
use Rattle.kssd_tx.specs.Lists.{AreLists}
use Rattle.kssd_values.specs.Blocks.{has_target, free_count, live_in, live_count, IsClosed}
use Rattle.kssd_index.specs.Standing.{older_entries}
use Rattle.kssd_mounted.specs.declared.mounted.Mounted.{Mounted}
use Rattle.kssd_mounted.specs.Standing.{Stands}

-- there are no more keys than the device has room for, deletion marks apart: on the levels without the log, on these with the frozen table over them, on level 1 with the base, and in the base; visible and pending pages leave four blocks of values, and visible ones a block without any; and where fewer than three blocks are free and none is being copied into, some closed block has a dead page
pub record SpaceIsLeft : Type 0 where
  pub levels : (m : Mounted) (flash : Flash) → Stands m flash → keys_from_level flash.image (the_anchor flash.image) 0 ≤ max_keys_in flash.blocks
  pub frozen : (m : Mounted) (flash : Flash) → Stands m flash → length (without_marks (merged (older_entries m.index.older) (runs_map flash.image (the_anchor flash.image).runs))) ≤ max_keys_in flash.blocks
  pub upper : (m : Mounted) (flash : Flash) → Stands m flash → keys_from_level flash.image (the_anchor flash.image) 1 ≤ max_keys_in flash.blocks
  pub base : (m : Mounted) (flash : Flash) → Stands m flash → keys_from_level flash.image (the_anchor flash.image) 2 ≤ max_keys_in flash.blocks
  pub spare : (m : Mounted) (flash : Flash) → Stands m flash → leaves_a_block flash.blocks (shown_in flash.image) ≡ true
  pub few : (m : Mounted) (flash : Flash) → Stands m flash → AreLists m.changes → live_count m.values ≤ 32 * (value_blocks_in flash.blocks - 4)
  pub victim : (m : Mounted) (flash : Flash) → Stands m flash → AreLists m.changes → free_count m.values < 3 → has_target m.values ≡ false
      → ((block : ℕ) → IsClosed m.values block → live_in m.values block ≡ 32) → ⊥
