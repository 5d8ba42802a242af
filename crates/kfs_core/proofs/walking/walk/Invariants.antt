use Rattle.std.proofs.Common.{◌≡◌, drop}
use Rattle.kfs_tx.specs.Tx.{Aged, seen}
use Rattle.kfs_core.specs.Flat.{walk_in, at_root}
use Rattle.kfs_core.specs.Spot.{where_of}
use Rattle.kfs_core.proofs.walking.walk.Given as goal

-- the tx stays, and the way that is left leads on from here
abbrev pub invariant-loop-piece : goal.invariant-loop-piece
invariant-loop-piece g l =
    let old = l.fn.running.tx in
    record {
      same : l.running.tx ≡ old;
      rest : walk_in (seen old) at_root l.pieces ≡ walk_in (seen old) (where_of l.spot) (drop l.piece-index l.pieces);
      age : Aged l.fn.running l.running 0;
    }
