use Rattle.kfs_shows.proofs.Leaving.{moved}
use Rattle.kfs_shows.proofs.moving_shows.Goals as goal

pub returns : goal.returns
returns c m after w above was place name p q n sh reach up at to dir free named apart moves = moved m after w sh reach above was place name p q n up at to apart dir free named moves
