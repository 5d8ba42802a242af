use Rattle.std.proofs.Common.{arith}
use Rattle.kfs_model.specs.declared.Node.TheVariants.{File}
use Rattle.kfs_shows.proofs.Content.{still_tree, still_shows}
use Rattle.kfs_shows.proofs.content_shows.Goals as goal

pub returns : goal.returns
returns c m after t n was bytes tree shows reach file short puts =
    let low = (tree.numbers n (File was) file).1 in
    (still_tree t tree n was bytes file short, still_shows t tree n was bytes file m after shows (omega arith) puts)
