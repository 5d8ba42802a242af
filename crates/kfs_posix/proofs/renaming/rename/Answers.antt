use Rattle.std.proofs.lemmas.Result.{err_from_is_err_and}
use Rattle.kfs_tx.specs.Tx.{seen}
use Rattle.kfs_core.specs.Core.{tx_in}
use Rattle.kfs_core.specs.Renaming.{rename_in}
use Rattle.kfs_core.specs.Spot.{route_of}
use Rattle.kfs_posix.proofs.RenameAnswers.{rename_not_done}
use Rattle.kfs_posix.proofs.renaming.rename.Goals as goal

pub returns-in_err-replaced-clause-does : goal.returns-in_err-replaced-clause-does
returns-in_err-replaced-clause-does g c =
    let p = err_from_is_err_and c.from_residual-in_err-replaced.result c.from_residual-in_err-replaced.ensures.1 in
    rw (p.1, p.2) (rename_not_done c.args.kfs.now c.rename.new.self c.args.files.now.opens c.args.old.now c.args.new.now (route_of c.in_ok-from.from) (route_of c.in_ok-to.to) (rename_in (seen (tx_in c.args.kfs.now))) c.in_ok-open_nodes.open_nodes c.in_err-replaced.field-0.0 c.in_ok-from.ensures.gives c.in_ok-to.ensures.gives c.in_ok-open_nodes.ensures c.in_err-replaced.ensures.does)
