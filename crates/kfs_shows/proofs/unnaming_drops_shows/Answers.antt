use Rattle.kfs_shows.proofs.UnnamingDrops.{still_tree, still_shows}
use Rattle.kfs_shows.proofs.unnaming_drops_shows.Goals as goal

pub returns : goal.returns
returns c m after t place name p n tree shows reach up at leaf drops =
    (still_tree t tree place name p n up at leaf, still_shows t tree place name p n up at leaf m after shows reach drops)
