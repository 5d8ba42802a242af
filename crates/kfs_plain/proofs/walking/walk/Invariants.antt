use Rattle.std.proofs.Common.{◌≡◌, drop}
use Rattle.kfs_model.specs.Tree.{walk, walk_from}
use Rattle.kfs_plain.specs.Tables.{tree_of}
use Rattle.kfs_plain.proofs.walking.walk.Given as goal

-- the way that is left leads on from here
abbrev pub invariant-loop-piece : goal.invariant-loop-piece
invariant-loop-piece l = walk (tree_of l.files) l.pieces ≡ walk_from (tree_of l.files) l.place (drop l.piece-index l.pieces)
