-- What is left of a device's space while it is up.
use Rattle.std.proofs.Common.{◌≡◌, ◌≤◌, ◌<◌, ◌-◌, ◌*◌, ℕ, true, false, List, length, sym, ap, subst, arith}
use Rattle.kv_nand.specs.Flash.{Flash}
use Rattle.kssd_layout.specs.Numbers.{max_keys_in, value_blocks_in}
use Rattle.kssd_entry.specs.declared.entry.Entry.{Entry}
use Rattle.kssd_model.specs.declared.anchor.Anchor.{Anchor}
use Rattle.kssd_model.specs.declared.runs.RunInfo.{RunInfo}
use Rattle.kssd_model.specs.Rising.{merged}
use Rattle.kssd_image.specs.Stages.{anchor_of, the_anchor, runs_map, without_marks}
use Rattle.kssd_tx.specs.Lists.{AreLists}
use Rattle.kssd_values.specs.Blocks.{has_target, free_count, live_in, live_count, IsClosed}
use Rattle.kssd_index.specs.Standing.{older_entries}
use Rattle.kssd_machine.proofs.Spacing.{no_victim}
use Rattle.kssd_mounted.specs.declared.mounted.Mounted.{Mounted}
use Rattle.kssd_mounted.specs.Standing.{Stands}
use Rattle.kssd_collect.proofs.Kept.{few_live}
use Rattle.kssd_engine.specs.Space.{SpaceIsLeft}

anchor_in : (m : Mounted) (flash : Flash) → Stands m flash → the_anchor flash.image ≡ m.index.root.anchor
unfolding the_anchor
anchor_in m flash h = ap anchor_of h.index.root.anchored.newest

frozen : (m : Mounted) (flash : Flash) → Stands m flash → length (without_marks (merged (older_entries m.index.older) (runs_map flash.image (the_anchor flash.image).runs))) ≤ max_keys_in flash.blocks
frozen m flash h =
    let keys = λ (runs : List RunInfo). length (without_marks (merged (older_entries m.index.older) (runs_map flash.image runs))) in
    omega (arith, h.index.split.keys, ap keys h.index.root.runs.named, ap (λ (a : Anchor). keys a.runs) (anchor_in m flash h))

few : (m : Mounted) (flash : Flash) → Stands m flash → AreLists m.changes → live_count m.values ≤ 32 * (value_blocks_in flash.blocks - 4)
few m flash h lists = subst (λ (n : ℕ). live_count m.values ≤ 32 * (value_blocks_in n - 4)) h.device (few_live m flash h lists)

victim : (m : Mounted) (flash : Flash) → Stands m flash → AreLists m.changes → free_count m.values < 3 → has_target m.values ≡ false → ((block : ℕ) → IsClosed m.values block → live_in m.values block ≡ 32) → ⊥
victim m flash h lists free idle = no_victim m.values (subst (λ (n : ℕ). 256 ≤ n) (sym h.device) h.least) (few_live m flash h lists) free idle

pub space_is_left : SpaceIsLeft
space_is_left = record {
  levels = λ m flash h. h.whole.index.room.levels;
  frozen = frozen;
  upper = λ m flash h. h.whole.index.room.upper;
  base = λ m flash h. h.whole.index.room.base;
  spare = λ m flash h. h.whole.values.spare;
  few = few;
  victim = victim;
}
