use Rattle.std.proofs.lemmas.Result.{err_from_is_err_and}
use Rattle.kfs_tx.specs.Tx.{seen}
use Rattle.kfs_core.specs.Core.{tx_in}
use Rattle.kfs_core.specs.Removing.{rmdir_in}
use Rattle.kfs_core.specs.Spot.{route_of}
use Rattle.kfs_posix.proofs.UnnameFailed.{unname_not_done}
use Rattle.kfs_posix.proofs.removing.rmdir.Goals as goal

pub returns-in_err-node-clause-does : goal.returns-in_err-node-clause-does
returns-in_err-node-clause-does g c =
    let p = err_from_is_err_and c.from_residual-in_err-node.result c.from_residual-in_err-node.ensures.1 in
    rw (p.1, p.2) (unname_not_done c.args.kfs.now c.rmdir.new.self c.args.files.now.opens c.args.path.now (route_of c.in_ok-path.path) (rmdir_in (seen (tx_in c.args.kfs.now))) c.in_ok-open_nodes.open_nodes c.in_err-node.field-0.0 c.in_ok-path.ensures.gives c.in_ok-open_nodes.ensures c.in_err-node.ensures.does)
