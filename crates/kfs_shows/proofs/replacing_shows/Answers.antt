use Rattle.kfs_shows.proofs.Replacing.{kept_tree, kept_nameless, kept_shows, dropped_tree, dropped_shows}
use Rattle.kfs_shows.proofs.replacing_shows.Goals as goal

pub returns : goal.returns
returns c m after t up was place name p q n r tree shows reach above at to over leaf apart = (
  λ moves. (
    kept_tree t tree up was place name p q n r above at to over leaf apart,
    kept_shows t tree up was place name p q n r above at to over leaf apart m after shows reach moves,
    kept_nameless t tree up was place name p q n r above at to over leaf apart,
  ),
  λ moves. (dropped_tree t tree up was place name p q n r above at to over leaf apart, dropped_shows t tree up was place name p q n r above at to over leaf apart m after shows reach moves),
)
