-- A run in memory, and the run that it stands for in an image.
use Rattle.std.specs.Prelude.{◌≡◌, ◌<◌, ℕ, false, List, [], get_or}
use Rattle.std.specs.List.{list_any}
use Rattle.kssd_model.specs.Rising.{is_gone}
use Rattle.kv_nand.specs.Flash.{Image}
use Rattle.kssd_model.specs.declared.runs.RunInfo.{RunInfo}
use Rattle.kssd_model.specs.RunPages.{run_page, page_entries, run_entries, first_key, IsRunIn, IsGoodRun}
use Rattle.kssd_run.specs.declared.reader.Run.{Run}

-- where it stands, and how large it is
abbrev pub run_info : Run → RunInfo
run_info run = run.info

-- its pages stand in an image of so many blocks, and begin with the keys that are kept of them
pub record StandsRun (run : Run) (device : ℕ) (image : Image) : Type 0 where
  pub run_in : IsRunIn run.info device image
  pub firsts : (i : ℕ) → i < run.info.pages → get_or run.firsts i [] ≡ first_key (page_entries image run.info.number run.info.blocks i)

-- what opening a run gives: the run of this info, which stands and isn't damaged
pub record IsOpened (info : RunInfo) (device : ℕ) (image : Image) (run : Run) : Type 0 where
  pub info_is : run_info run ≡ info
  pub stands : StandsRun run device image
  pub good : IsGoodRun image info

-- the first so many pages in these blocks are the same in both images
abbrev pub SamePages : List ℕ → ℕ → Image → Image → Type 0
SamePages blocks pages old new = (i : ℕ) → i < pages → new (run_page blocks i) ≡ old (run_page blocks i)

-- a run stands, with the same entries, in each image that has its pages as they are
abbrev pub RunStays : Type 0
RunStays =
    (run : Run) (device : ℕ) (old new : Image) → SamePages (run_info run).blocks (run_info run).pages old new → StandsRun run device old
    → StandsRun run device new × (run_entries new (run_info run) ≡ run_entries old (run_info run))

-- a run that isn't damaged isn't so either where its pages are as they are
abbrev pub GoodRunsStay : Type 0
GoodRunsStay = (info : RunInfo) (old new : Image) → SamePages info.blocks info.pages old new → IsGoodRun old info → IsGoodRun new info

-- a run that stands isn't damaged, where the base has no deletion mark
abbrev pub StandingRunsAreGood : Type 0
StandingRunsAreGood = (info : RunInfo) (device : ℕ) (image : Image) → IsRunIn info device image → (info.level ≡ 2 → list_any is_gone (run_entries image info) ≡ false) → IsGoodRun image info
