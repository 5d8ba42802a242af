use Rattle.kfs_shows.proofs.Leaving.{unlinked_kept, unlinked_dropped}
use Rattle.kfs_shows.proofs.unlinking_shows.Goals as goal

pub returns : goal.returns
returns c m after w place name p n node sh reach up at there leaf =
    (unlinked_kept m after w sh reach place name p n node up at there leaf, unlinked_dropped m after w sh reach place name p n node up at there leaf)
