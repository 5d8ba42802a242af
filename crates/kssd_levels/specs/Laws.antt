-- What holds of each device's levels.
use Rattle.std.specs.Prelude.{◌≡◌, ◌≤◌, ◌+◌, ℕ, List, ◌++◌, length, sum_by}
use Rattle.kv_nand.specs.Flash.{Image}
use Rattle.kssd_layout.specs.Laws.{blocks_for}
use Rattle.kssd_layout.specs.Numbers.{max_keys_in}
use Rattle.kssd_merge.specs.Same.{AreSameIn}
use Rattle.kssd_run.specs.declared.reader.Run.{Run}
use Rattle.kssd_run.specs.Run.{run_info}
use Rattle.kssd_levels.specs.declared.levels.Levels.{Levels}
use Rattle.kssd_levels.specs.Levels.{device_of, named_blocks, free_blocks_of, levels_map, first_entries, StandLevels}

-- they stand, with the same entries, in each image that has their blocks' pages as they are
abbrev pub LevelsStay : Type 0
LevelsStay =
    (levels : Levels) (device : ℕ) (old new : Image) → AreSameIn (named_blocks levels) old new → StandLevels levels device old
    → StandLevels levels device new × (levels_map levels new ≡ levels_map levels old)

-- how many entries runs have in all
abbrev pub entries_in : List Run → ℕ
entries_in runs = sum_by (λ run. (run_info run).entries) runs

-- the most entries that each job reads, and blocks for so many
pub record HasSpareBlocks (levels : Levels) : Type 0 where
  pub flush : length levels.zero ≤ 3 → (entries : ℕ) → entries ≤ 2048 → blocks_for entries ≤ length (free_blocks_of levels)
  pub zero_most : first_entries levels.one ≤ 4096 → entries_in (levels.zero ++ levels.one) ≤ 12288
  pub zero : first_entries levels.one ≤ 4096 → blocks_for (entries_in (levels.zero ++ levels.one)) ≤ length (free_blocks_of levels)
  pub one_most : entries_in (levels.one ++ levels.base) ≤ 12288 + max_keys_in (device_of levels)
  pub one : blocks_for (entries_in (levels.one ++ levels.base)) ≤ length (free_blocks_of levels)

-- there are enough free blocks for the run of each job
abbrev pub JobBlocksSuffice : Type 0
JobBlocksSuffice = (levels : Levels) → HasSpareBlocks levels
