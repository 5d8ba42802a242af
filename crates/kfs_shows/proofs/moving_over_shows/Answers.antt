use Rattle.kfs_shows.proofs.Leaving.{moved_kept, moved_dropped}
use Rattle.kfs_shows.proofs.moving_over_shows.Goals as goal

pub returns : goal.returns
returns c m after w above was place name p q n r node sh reach up at to over there leaf apart = (
  moved_kept m after w sh reach above was place name p q n up at to apart r node over there leaf,
  moved_dropped m after w sh reach above was place name p q n up at to apart r node over there leaf,
)
