-- What holds of the numbers of every device.
use Rattle.std.specs.Prelude.{◌≡◌, ◌↔◌, ◌<◌, ◌≤◌, ◌+◌, ◌*◌, ◌/◌, ℕ}
use Rattle.kssd_layout.specs.declared.region.Region.TheVariants.{Anchor, Log, Run, Value}
use Rattle.kssd_layout.specs.Numbers.{base_blocks_in, value_blocks_in, run_blocks_in, max_keys_in, max_pages_in, first_value_block_in, region_in}

-- the regions lie one behind the other and fill the device
pub record Tiles (blocks : ℕ) : Type 0 where
  pub all : 2 + 18 + run_blocks_in blocks + value_blocks_in blocks ≡ blocks
  pub anchor : (block : ℕ) → (region_in blocks block ≡ Anchor) ↔ (block < 2)
  pub log : (block : ℕ) → (region_in blocks block ≡ Log) ↔ ((2 ≤ block) × (block < 20))
  pub run : (block : ℕ) → (region_in blocks block ≡ Run) ↔ ((20 ≤ block) × (block < first_value_block_in blocks))
  pub value : (block : ℕ) → (region_in blocks block ≡ Value) ↔ (first_value_block_in blocks ≤ block)

-- pages of at least 9 entries, the last one apart
abbrev pub pages_for : ℕ → ℕ
pages_for entries = (entries + 8) / 9

-- blocks of 32 such pages
abbrev pub blocks_for : ℕ → ℕ
blocks_for entries = (pages_for entries + 31) / 32

-- how many blocks a run of each level takes
pub record RunsFit (blocks : ℕ) : Type 0 where
  pub level_0 : (entries : ℕ) → entries ≤ 2048 → blocks_for entries ≤ 8
  pub level_1 : (entries : ℕ) → entries ≤ 12288 → blocks_for entries ≤ 43
  pub base : (entries : ℕ) → entries ≤ max_keys_in blocks → blocks_for entries ≤ base_blocks_in blocks

-- four runs of level 0, and two each of level 1 and the base, take just the blocks of runs
abbrev pub RunBlocksSuffice : ℕ → Type 0
RunBlocksSuffice blocks = 4 * 8 + 2 * 43 + 2 * base_blocks_in blocks ≡ run_blocks_in blocks

-- the pages of values, and 44 blocks more, are just the blocks of values
abbrev pub ValuesFit : ℕ → Type 0
ValuesFit blocks = max_pages_in blocks + 32 * 44 ≡ 32 * value_blocks_in blocks

-- between the numbers of the least and of the greatest device
pub record InRange (blocks : ℕ) : Type 0 where
  pub base_least : 14 ≤ base_blocks_in blocks
  pub base_most : base_blocks_in blocks ≤ 238
  pub values_least : 90 ≤ value_blocks_in blocks
  pub values_most : value_blocks_in blocks ≤ 1434
  pub keys_least : 4032 ≤ max_keys_in blocks
  pub keys_most : max_keys_in blocks ≤ 68544
  pub pages_least : 1472 ≤ max_pages_in blocks
  pub pages_most : max_pages_in blocks ≤ 44480
