-- What holds of the runs of each device.
use Rattle.std.specs.Prelude.{◌≡◌, ◌≤◌, ℕ, nat_eq, List, ◌++◌, length}
use Rattle.std.specs.List.{All, IsDistinct, IsDistinct-prop}
use Rattle.std.proofs.Props.{props}
use Rattle.kssd_image.specs.AnchorForm.{IsRunForm, blocks_of, run_numbers}
use Rattle.kssd_model.specs.declared.runs.RunInfo.{RunInfo}
use Rattle.kssd_run.specs.declared.reader.Run.{Run}
use Rattle.kssd_levels.specs.Runs.{infos_in}

-- the runs of a list are of this level
abbrev pub AreOfLevel : ℕ → List Run → Type 0
AreOfLevel level runs = All (λ info. info.level ≡ level) (infos_in runs)

-- what holds of each device's levels: an anchor may name their runs
pub record AreLevels (device : ℕ) (zero one base : List Run) : Type 0 where
  pub zero_level : AreOfLevel 0 zero
  pub one_level : AreOfLevel 1 one
  pub base_level : AreOfLevel 2 base
  pub zero_few : length zero ≤ 4
  pub one_few : length one ≤ 1
  pub base_few : length base ≤ 1
  pub runs : All (IsRunForm device) (infos_in (zero ++ (one ++ base)))
  pub blocks_differ : IsDistinct nat_eq (blocks_of (infos_in (zero ++ (one ++ base))))
  pub numbers_differ : IsDistinct nat_eq (run_numbers (infos_in (zero ++ (one ++ base))))

run_form-prop : (device : ℕ) (info : RunInfo) → IsProp (IsRunForm device info)
run_form-prop device info = Prim.hlevel props

-- there is at most one proof of it
pub AreLevels-prop : (device : ℕ) (zero one base : List Run) → IsProp (AreLevels device zero one base)
AreLevels-prop device zero one base = Prim.hlevel (props, IsDistinct-prop, run_form-prop)
