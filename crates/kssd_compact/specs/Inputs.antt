-- Entries in memory over runs.
use Rattle.std.specs.Prelude.{◌≡◌, ◌≤◌, ℕ, true, List, length}
use Rattle.kv_nand.specs.Flash.{Image}
use Rattle.kssd_entry.specs.declared.entry.Entry.{Entry}
use Rattle.kssd_model.specs.Rising.{is_rising, merged}
use Rattle.kssd_image.specs.Stages.{runs_map}
use Rattle.kssd_levels.specs.Runs.{infos_in, StandRuns}
use Rattle.kssd_compact.specs.declared.source.Inputs.{Inputs}

-- for each key the newest entry, deletion marks too
abbrev pub inputs_rest : Inputs → Image → List Entry
inputs_rest inputs image = merged inputs.entries (runs_map image (infos_in inputs.runs))

-- the entries rise, and at most six runs stand
pub record StandInputs (inputs : Inputs) (device : ℕ) (image : Image) : Type 0 where
  pub rising : is_rising inputs.entries ≡ true
  pub few : length inputs.runs ≤ 6
  pub runs : StandRuns inputs.runs device image
