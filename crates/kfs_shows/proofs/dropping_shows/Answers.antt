use Rattle.kfs_shows.proofs.Dropping.{still_tree, still_shows, is_kept}
use Rattle.kfs_shows.proofs.dropping_shows.Goals as goal

pub returns : goal.returns
returns c m after t n tree shows low reach nameless drops = (still_tree t tree n nameless, still_shows t tree n nameless m after shows low drops reach, is_kept t tree n nameless)
