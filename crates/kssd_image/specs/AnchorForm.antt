-- What a mount demands of an anchor by itself.
use Rattle.std.specs.Prelude.{◌≡◌, ◌≤◌, ◌<◌, ◌+◌, ◌/◌, ◌^◌, ◌==◌, ℕ, max, nat_eq, List, [], ◌∷◌, map, length, if◌then◌else◌}
use Rattle.std.specs.List.{All, AllPairs, IsDistinct, count_by, flat_map}
use Rattle.kssd_layout.specs.Numbers.{max_keys_in, region_in}
use Rattle.kssd_layout.specs.Laws.{pages_for}
use Rattle.kssd_layout.specs.declared.region.Region.TheVariants.{Run}
use Rattle.kssd_model.specs.declared.runs.RunInfo.{RunInfo}
use Rattle.kssd_model.specs.declared.anchor.Anchor.{Anchor}

-- the most entries of a run on level 0, on level 1 and in the base
abbrev pub most_entries : ℕ → ℕ → ℕ
most_entries blocks level = if level == 0 then 2048 else (if level == 1 then 12288 else max_keys_in blocks)

-- a run within its level's limit, with no more pages than its entries may need and the blocks that these fill, all for runs
pub record IsRunForm (blocks : ℕ) (run : RunInfo) : Type 0 where
  pub entries_some : 1 ≤ run.entries
  pub entries_most : run.entries ≤ most_entries blocks run.level
  pub pages_some : 1 ≤ run.pages
  pub pages_most : run.pages ≤ pages_for run.entries
  pub block_count : length run.blocks ≡ (run.pages + 31) / 32
  pub region : All (λ block. region_in blocks block ≡ Run) run.blocks

-- how many runs stand on a level
abbrev pub count_on : ℕ → List RunInfo → ℕ
count_on level runs = count_by (λ run. run.level == level) runs

-- at most four runs of level 0, then at most one of level 1, then at most one base
pub record AreOnLevels (runs : List RunInfo) : Type 0 where
  pub known : All (λ run. run.level ≤ 2) runs
  pub order : AllPairs (λ run later. run.level ≤ later.level) runs
  pub level_0 : count_on 0 runs ≤ 4
  pub level_1 : count_on 1 runs ≤ 1
  pub base : count_on 2 runs ≤ 1

-- the numbers of runs
abbrev pub run_numbers : List RunInfo → List ℕ
run_numbers runs = map (λ run. run.number) runs

-- the blocks of runs, one run after the other
abbrev pub blocks_of : List RunInfo → List ℕ
blocks_of runs = flat_map (λ run. run.blocks) runs

-- the anchor is one of a device of so many blocks, its log begins in the ring, and its runs are in form, with no block named twice and each number once, below the next
pub record IsAnchorForm (blocks : ℕ) (anchor : Anchor) : Type 0 where
  pub device : anchor.blocks ≡ blocks
  pub log_low : 2 ≤ anchor.log_block
  pub log_high : anchor.log_block ≤ 19
  pub levels : AreOnLevels anchor.runs
  pub runs : All (IsRunForm blocks) anchor.runs
  pub blocks_differ : IsDistinct nat_eq (blocks_of anchor.runs)
  pub numbers_differ : IsDistinct nat_eq (run_numbers anchor.runs)
  pub numbers_low : All (λ number. number < anchor.next_run) (run_numbers anchor.runs)

-- the greatest of numbers
abbrev pub greatest : List ℕ → ℕ
greatest [] = 0
greatest (n ∷ ns) = max n (greatest ns)

-- the greatest of an anchor's numbers of eight bytes
abbrev pub anchor_age : Anchor → ℕ
anchor_age anchor = greatest (anchor.number ∷ anchor.next_run ∷ anchor.log_seq ∷ run_numbers anchor.runs)

-- its numbers leave room to go on
abbrev pub HasLowNumbers : Anchor → Type 0
HasLowNumbers anchor = anchor_age anchor < 2 ^ 62
