use Rattle.std.proofs.Common.{[], ◌∷◌, ◌++◌}
use Rattle.std.specs.FinMap as objects
use Rattle.kfs_objects.specs.Keys.{entry_key}
use Rattle.kfs_objects.specs.Records.{entry_value}
use Rattle.kfs_laws.proofs.Renamed.{IsGoal}
use Rattle.kfs_shows.proofs.Renaming.{still_tree, still_shows, moves_entry}
use Rattle.kfs_shows.proofs.renaming_shows.Goals as goal

pub returns : goal.returns
returns c m t up was place name p q n tree shows reach above at to dir free named apart =
    let spot : IsGoal t (up ++ was ∷ []) place name q = record { at = to; dir = dir; free = free; named = named; apart = apart } in (
      still_tree t tree up was place name p q n above at spot,
      still_shows t tree up was place name p q n above at spot m (objects.insert (objects.remove m (entry_key p was)) (entry_key q name) (entry_value n)) shows reach (moves_entry t tree up was place name p q n above at spot m reach),
    )
