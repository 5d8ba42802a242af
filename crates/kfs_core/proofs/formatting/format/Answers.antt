use Rattle.std.proofs.lemmas.Result.{err_from_is_err_and}
use Rattle.kfs_core.proofs.FormatLaws.{formats_by, first_met, second_met, end_met}
use Rattle.kfs_core.proofs.formatting.format.Goals as goal

pub returns-clause-ok : goal.returns-clause-ok
returns-clause-ok g c = (formats_by _ _ _ _ _ _ _ _ _ _ c.in_ok-root.ensures c.in_ok-inode.ensures c.in_ok-head.ensures c.in_ok-first.ensures c.requires.idle c.requires.empty c.in_ok-tx.ensures.ok c.in_ok-set.ensures.ok c.in_ok-set-2.ensures.ok c.in_ok-end.ensures.ok).0

pub returns-clause-up : goal.returns-clause-up
returns-clause-up g c = (formats_by _ _ _ _ _ _ _ _ _ _ c.in_ok-root.ensures c.in_ok-inode.ensures c.in_ok-head.ensures c.in_ok-first.ensures c.requires.idle c.requires.empty c.in_ok-tx.ensures.ok c.in_ok-set.ensures.ok c.in_ok-set-2.ensures.ok c.in_ok-end.ensures.ok).1

pub returns-in_err-set-clause-err : goal.returns-in_err-set-clause-err
returns-in_err-set-clause-err g c =
    let p = err_from_is_err_and c.from_residual-in_err-set.result c.from_residual-in_err-set.ensures.1 in
    rw (p.1, p.2) (first_met _ c.requires.idle c.requires.empty _ _ c.in_ok-tx.ensures.ok _ _ _ _ c.in_ok-root.ensures c.in_ok-inode.ensures c.in_err-set.ensures.err)

pub returns-in_err-set-2-clause-err : goal.returns-in_err-set-2-clause-err
returns-in_err-set-2-clause-err g c =
    let p = err_from_is_err_and c.from_residual-in_err-set-2.result c.from_residual-in_err-set-2.ensures.1 in
    rw (p.1, p.2) (second_met _ c.requires.idle c.requires.empty _ _ c.in_ok-tx.ensures.ok _ _ _ c.in_ok-root.ensures c.in_ok-inode.ensures c.in_ok-set.ensures.ok _ _ _ _ c.in_ok-head.ensures c.in_ok-first.ensures c.in_err-set-2.ensures.err)

pub returns-in_err-end-clause-err : goal.returns-in_err-end-clause-err
returns-in_err-end-clause-err g c =
    let p = err_from_is_err_and c.from_residual-in_err-end.result c.from_residual-in_err-end.ensures.1 in
    rw (p.1, p.2) (end_met _ c.requires.idle c.requires.empty _ _ c.in_ok-tx.ensures.ok _ _ _ c.in_ok-root.ensures c.in_ok-inode.ensures c.in_ok-set.ensures.ok _ _ _ c.in_ok-head.ensures c.in_ok-first.ensures c.in_ok-set-2.ensures.ok c.requires.room _ _ c.in_err-end.ensures.err)
