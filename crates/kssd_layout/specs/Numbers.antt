-- The numbers of a device of so many blocks.
use Rattle.std.specs.Prelude.{◌≡◌, ◌≤◌, ◌+◌, ◌-◌, ◌*◌, ◌/◌, ℕ, nat_lt, if◌then◌else◌}
use Rattle.kssd_layout.specs.declared.region.Region.{Region}
use Rattle.kssd_layout.specs.declared.region.Region.TheVariants.{Anchor, Log, Run, Value}

-- the blocks that the base may fill
abbrev pub base_blocks_in : ℕ → ℕ
base_blocks_in blocks = (blocks - 138) / 8

-- the blocks of values
abbrev pub value_blocks_in : ℕ → ℕ
value_blocks_in blocks = (blocks - 138) - 2 * base_blocks_in blocks

-- the blocks of runs
abbrev pub run_blocks_in : ℕ → ℕ
run_blocks_in blocks = 118 + 2 * base_blocks_in blocks

-- the greatest number of keys
abbrev pub max_keys_in : ℕ → ℕ
max_keys_in blocks = 288 * base_blocks_in blocks

-- the greatest number of values in pages
abbrev pub max_pages_in : ℕ → ℕ
max_pages_in blocks = 32 * (value_blocks_in blocks - 44)

-- the first block of values, behind those of anchors, log and runs
abbrev pub first_value_block_in : ℕ → ℕ
first_value_block_in blocks = 20 + run_blocks_in blocks

-- blocks 0 and 1 hold anchors, 2 to 19 the log ring, the next runs, the last values
abbrev pub region_in : ℕ → ℕ → Region
region_in blocks block =
    if nat_lt block 2 then Anchor
    else (if nat_lt block 20 then Log
    else (if nat_lt block (first_value_block_in blocks) then Run else Value))

-- the numbers are those of a device of so many blocks
pub record IsLayoutOf (blocks base_blocks value_blocks max_keys max_pages : ℕ) : Type 0 where
  pub least : 256 ≤ blocks
  pub most : blocks ≤ 2048
  pub base : base_blocks ≡ base_blocks_in blocks
  pub values : value_blocks ≡ value_blocks_in blocks
  pub keys : max_keys ≡ max_keys_in blocks
  pub pages : max_pages ≡ max_pages_in blocks
