-- Lists of runs.
use Rattle.std.specs.Prelude.{ℕ, Bool, nat_eq, List, map}
use Rattle.std.specs.List.{list_any, AllByRecursion}
use Rattle.kv_nand.specs.Flash.{Image}
use Rattle.kssd_model.specs.declared.runs.RunInfo.{RunInfo}
use Rattle.kssd_image.specs.AnchorForm.{blocks_of}
use Rattle.kssd_run.specs.declared.reader.Run.{Run}
use Rattle.kssd_run.specs.Run.{run_info, StandsRun}

-- what is known of them
abbrev pub infos_in : List Run → List RunInfo
infos_in runs = map run_info runs

-- their blocks
abbrev pub blocks_in : List Run → List ℕ
blocks_in runs = blocks_of (infos_in runs)

-- whether a block is one of these
abbrev pub has_block : List ℕ → ℕ → Bool
has_block blocks block = list_any (nat_eq block) blocks

-- each of them stands
abbrev pub StandRuns : List Run → ℕ → Image → Type 0
StandRuns runs device image = AllByRecursion (λ run. StandsRun run device image) runs
