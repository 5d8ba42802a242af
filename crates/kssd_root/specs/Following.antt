-- What an anchor behind the newest may name.
use Rattle.std.specs.Prelude.{◌≡◌, ◌<◌, ◌≤◌, ◌+◌, ◌*◌, ◌/◌, ℕ, true, nat_eq, nat_le, List, length, filter}
use Rattle.std.specs.List.{All, list_any}
use Rattle.kv_nand.specs.Flash.{Image, Erased}
use Rattle.kssd_layout.specs.Numbers.{region_in, max_keys_in}
use Rattle.kssd_layout.specs.declared.region.Region.TheVariants as regions
use Rattle.kssd_entry.specs.declared.entry.Entry.{Entry}
use Rattle.kssd_model.specs.declared.anchor.Anchor.{Anchor}
use Rattle.kssd_model.specs.declared.runs.RunInfo.{RunInfo}
use Rattle.kssd_model.specs.Rising.{is_rising, merged}
use Rattle.kssd_model.specs.Groups.{log_in}
use Rattle.kssd_model.specs.RunPages.{run_entries, IsGoodRun}
use Rattle.kssd_image.specs.Stages.{runs_map, log_map, without_marks, shown_by}
use Rattle.kssd_image.specs.AnchorForm.{run_numbers}
use Rattle.kssd_image.specs.Whole.{IsLogWhole, log_of, age_by}
use Rattle.kssd_run.specs.declared.reader.Run.{Run}
use Rattle.kssd_run.specs.Run.{run_info, StandsRun}
use Rattle.kssd_levels.specs.declared.kind.JobKind.{JobKind}
use Rattle.kssd_levels.specs.declared.kind.JobKind.TheVariants.{Flush, Zero, One, Collect}
use Rattle.kssd_levels.specs.declared.levels.Levels.{Levels}
use Rattle.kssd_levels.specs.Levels.{infos_of, levels_map, StandLevels, MayInstall}
use Rattle.kssd_root.specs.declared.root.Root.{Root}
use Rattle.kssd_root.specs.Standing.{table_of}

-- only pages of blocks for runs may differ, and none of the blocks that are named
abbrev pub KeepsNamed : ℕ → List ℕ → Image → Image → Type 0
KeepsNamed blocks named old new = (q : ℕ) → (region_in blocks (q / 32) ≡ regions.Run → list_any (nat_eq (q / 32)) named ≡ true) → new q ≡ old q

-- a run that a job over these levels may leave stands with exactly these entries and this number
pub record IsNewRun (kind : JobKind) (number : ℕ) (levels : Levels) (goal : List Entry) (run : Run) (blocks : ℕ) (image : Image) : Type 0 where
  pub may : MayInstall kind run levels
  pub number_is : (run_info run).number ≡ number
  pub entries : run_entries image (run_info run) ≡ goal
  pub stands : StandsRun run blocks image

-- the anchor behind this one
abbrev pub following : Anchor → List RunInfo → ℕ → ℕ → Anchor
following anchor runs block seq = record { number = anchor.number + 1; blocks = anchor.blocks; next_run = anchor.next_run + 1; log_block = block; log_seq = seq; runs = runs }

-- the keys of the runs on this level and on those behind it, deletion marks apart
abbrev pub keys_from : Image → List RunInfo → ℕ → ℕ
keys_from image runs least = length (without_marks (runs_map image (filter (λ run. nat_le least run.level) runs)))

-- an anchor behind this one may name the runs of these levels: they stand, none is damaged, each has a lower number than the next run, and on each level and behind it there are no more keys than the device has room for
pub record MayFollow (levels : Levels) (anchor : Anchor) (blocks : ℕ) (image : Image) : Type 0 where
  pub stand : StandLevels levels blocks image
  pub good : All (IsGoodRun image) (infos_of levels)
  pub numbers : All (λ number. number < anchor.next_run + 1) (run_numbers (infos_of levels))
  pub all : keys_from image (infos_of levels) 0 ≤ max_keys_in blocks
  pub upper : keys_from image (infos_of levels) 1 ≤ max_keys_in blocks
  pub base : keys_from image (infos_of levels) 2 ≤ max_keys_in blocks

-- an anchor behind this one may name the log that begins in this block with this number: it is whole, its numbers are hardly greater, and over these levels it shows the same
pub record MayBegin (block seq : ℕ) (levels : Levels) (anchor : Anchor) (image : Image) : Type 0 where
  pub low : 2 ≤ block
  pub high : block ≤ 19
  pub number : seq ≤ age_by image anchor + 1
  pub next : (log_in image (32 * block) seq).next ≤ age_by image anchor + 2
  pub whole : IsLogWhole image (log_in image (32 * block) seq)
  pub shown : without_marks (merged (log_map image (32 * block) seq) (levels_map levels image)) ≡ shown_by image anchor

-- the entries of levels with what a job puts over them: a table at a flush
abbrev pub with_table : JobKind → List Entry → List Entry → List Entry
with_table Flush table older = merged table older
with_table Zero table older = older
with_table One table older = older
with_table Collect table older = older

-- whatever entries are put over them, the same is visible
abbrev pub ShowAlike : List Entry → List Entry → Type 0
ShowAlike old new = (newer : List Entry) → without_marks (merged newer new) ≡ without_marks (merged newer old)

-- the same anchor, but for its log, which begins in this block with this number
abbrev pub with_log : Anchor → ℕ → ℕ → Anchor
with_log anchor block seq = record anchor { log_block = block; log_seq = seq }

-- the log of a root's anchor is split: its later part, which is whole too, begins where the log of this anchor does and ends where the whole log ends, and this table has the newest entries of the earlier part; that over the levels has no more keys than the device has room for
pub record IsSplit (table : List Entry) (later : Anchor) (root : Root) (blocks : ℕ) (image : Image) : Type 0 where
  pub low : 2 ≤ later.log_block
  pub high : later.log_block ≤ 19
  pub next : (log_of image later).next ≡ (log_of image root.anchor).next
  pub whole : IsLogWhole image (log_of image later)
  pub all : table_of image root.anchor ≡ merged (table_of image later) table
  pub rising : is_rising table ≡ true
  pub keys : length (without_marks (merged table (levels_map root.levels image))) ≤ max_keys_in blocks

-- the log begins where it began, and the pages of the ring are the same
pub record SameLog (old : Anchor) (before : Image) (new : Anchor) (after : Image) : Type 0 where
  pub block : new.log_block ≡ old.log_block
  pub seq : new.log_seq ≡ old.log_seq
  pub ring : (q : ℕ) → 64 ≤ q → q < 640 → after q ≡ before q

-- all pages of the block are Erased
abbrev pub IsCleanBlock : ℕ → Image → Type 0
IsCleanBlock block image = (q : ℕ) → q / 32 ≡ block → image q ≡ Erased
