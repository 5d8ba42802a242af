use Rattle.std.proofs.Common.{◌+◌, arith, subst, sym}
use Rattle.std.proofs.lemmas.Result.{IfErr-weaker, err_from_is_err_and}
use Rattle.kfs_objects.specs.Keys.{entry_key}
use Rattle.kfs_file.proofs.Failing.{fails_weaker}
use Rattle.kfs_tx.specs.Tx.{Tx}
use Rattle.kfs_core.specs.Removing.{chunks_gone}
use Rattle.kfs_core.proofs.Dropped.{Follows, deletion_fails, follows_deleted}
use Rattle.kfs_core.proofs.Naming.{follows_none, fails_following}
use Rattle.kfs_core.proofs.removing.unname.Goals as goal

pub returns-in_err-remove-clause-err : goal.returns-in_err-remove-clause-err
returns-in_err-remove-clause-err g c =
    let p = err_from_is_err_and c.from_residual.result c.from_residual.ensures.1 in
    let fault = c.in_err-remove.field-0.0 in
    let new = c.remove.new.running.tx.machine in
    let leaf = c.args.leaf.now in
    rw (p.1, p.2) (fails_weaker c.args.running.now.tx 1 (2 + chunks_gone leaf c.args.open_now) fault new (omega arith)
    (deletion_fails c.args.running.now.tx (entry_key leaf.parent c.bytes.result.now) fault new c.in_err-remove.ensures.err))

pub returns-clause-err : goal.returns-clause-err
returns-clause-err g c =
    let old = c.args.running.now.tx in
    let mid = c.remove.new.running.tx in
    let leaf = c.args.leaf.now in
    let key = entry_key leaf.parent c.bytes.result.now in
    let follows = subst (λ (r : Tx). Follows old r 1) (sym c.in_ok-remove.ensures.ok) (follows_deleted old old key 0 (follows_none old)) in
    IfErr-weaker c.lose_name.result _ _
    (λ fault h. fails_following old mid 1 (1 + chunks_gone leaf c.args.open_now) (2 + chunks_gone leaf c.args.open_now) fault c.lose_name.new.running.tx.machine follows (omega arith) h) c.lose_name.ensures.err
