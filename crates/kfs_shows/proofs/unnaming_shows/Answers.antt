use Rattle.kfs_shows.proofs.Unnaming.{still_tree, still_shows, nameless}
use Rattle.kfs_shows.proofs.unnaming_shows.Goals as goal

pub returns : goal.returns
returns c m t place name p n tree shows reach up at leaf =
    (still_tree t tree place name p n up at leaf, still_shows t tree place name p n up at leaf m shows reach, nameless t tree place name p n up at leaf)
