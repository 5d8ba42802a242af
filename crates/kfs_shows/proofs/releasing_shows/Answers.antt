use Rattle.kfs_shows.proofs.Dropping.{still_shows}
use Rattle.std.proofs.Common.{arith}
use Rattle.kfs_shows.proofs.Sweeping.{sweeps_none}
use Rattle.kfs_shows.proofs.Leaving.{leaves_all, leaves_less}
use Rattle.kfs_shows.proofs.releasing_shows.Goals as goal

pub returns : goal.returns
returns c m after w tree shows reach = (
  λ n node there none but shut gone. let low = (tree.numbers n node there).1 in leaves_less after w tree n node there none but shut (still_shows w.tree tree n none m after shows (omega arith) gone reach),
  λ opened. (sweeps_none w tree opened, (leaves_all m w tree shows opened).0),
)
