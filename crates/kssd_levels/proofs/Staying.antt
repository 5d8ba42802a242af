-- Levels stay where their blocks stay.
use Rattle.std.proofs.Common.{◌≡◌, ◌∙◌, ℕ, List, [], ◌∷◌, ◌++◌, refl, ap}
use Rattle.kv_nand.specs.Flash.{Image}
use Rattle.kssd_entry.specs.declared.entry.Entry.{Entry}
use Rattle.kssd_model.specs.Rising.{merged}
use Rattle.kssd_model.specs.RunPages.{run_entries}
use Rattle.kssd_image.specs.Stages.{runs_map}
use Rattle.kssd_merge.specs.Same.{AreSameIn}
use Rattle.kssd_run.specs.declared.reader.Run.{Run}
use Rattle.kssd_run.specs.Run.{run_info}
use Rattle.kssd_run.proofs.Staying.{run_stays}
use Rattle.kssd_levels.specs.Runs.{infos_in, blocks_in, StandRuns}
use Rattle.kssd_levels.specs.ReaderLaws.{same_pages}
use Rattle.kssd_levels.specs.TwoLaws.{same_first, same_second}
use Rattle.kssd_levels.specs.Laws.{LevelsStay}
use Rattle.kssd_levels.proofs.Layers.{stand_join, stand_split}

-- runs stay where their blocks stay
pub runs_stay : (runs : List Run) (device : ℕ) (old new : Image) → AreSameIn (blocks_in runs) old new → StandRuns runs device old → StandRuns runs device new × (runs_map new (infos_in runs) ≡ runs_map old (infos_in runs))
runs_stay [] device old new same h = (tt, refl)
runs_stay (run ∷ runs) device old new same h =
    let one = run_stays run device old new (same_pages (run_info run).blocks (run_info run).pages old new run.housed (same_first (run_info run).blocks (blocks_in runs) old new same)) h.0 in
    let rest = runs_stay runs device old new (same_second (run_info run).blocks (blocks_in runs) old new same) h.1 in (
      (one.0, rest.0),
      ap (λ (xs : List Entry). merged xs (runs_map new (infos_in runs))) one.1 ∙ ap (merged (run_entries old (run_info run))) rest.1,
    )

pub levels_stay : LevelsStay
levels_stay levels device old new same h =
    let all = runs_stay (levels.zero ++ (levels.one ++ levels.base)) device old new same (stand_join levels.zero _ device old h.zero (stand_join levels.one levels.base device old h.one h.base)) in
    let first = stand_split levels.zero (levels.one ++ levels.base) device new all.0 in
    let second = stand_split levels.one levels.base device new first.1 in
    (record { device_is = h.device_is; zero = first.0; one = second.0; base = second.1 }, all.1)
