use Rattle.kfs_core.proofs.Pieces.{path_named}
use Rattle.kfs_posix.proofs.paths.syntax.Goals as goal

pub returns-clause-named : goal.returns-clause-named
returns-clause-named c = path_named c.args.bytes.now (c.in_ok-path.path.pieces, c.in_ok-path.path.trailing) c.in_ok-path.ensures
