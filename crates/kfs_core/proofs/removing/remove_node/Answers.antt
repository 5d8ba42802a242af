use Rattle.std.proofs.Common.{ℕ, ◌≡◌, ◌+◌, inl, inr, ◌∙◌, ap, subst, arith}
use Rattle.std.proofs.lemmas.Result.{err_from_is_err_and}
use Rattle.kfs_objects.specs.Keys.{orphan_key}
use Rattle.kfs_tx.specs.Tx.{Tx, one_change, ChangeFault}
use Rattle.kfs_file.proofs.Failing.{fails_weaker}
use Rattle.kfs_core.specs.Removing.{chunks_for}
use Rattle.kfs_core.proofs.Dropped.{goes_follows, deletion_fails}
use Rattle.kfs_core.proofs.Naming.{fails_following}
use Rattle.kfs_core.proofs.removing.remove_node.Goals as goal

pub returns-in_err-drop_node-clause-err : goal.returns-in_err-drop_node-clause-err
returns-in_err-drop_node-clause-err g c =
    let p = err_from_is_err_and c.from_residual.result c.from_residual.ensures.1 in
    rw (p.1, p.2) (inl (fails_weaker c.args.running.now.tx (1 + chunks_for c.args.size) (2 + chunks_for c.args.size) c.in_err-drop_node.field-0.0 c.drop_node.new.running.tx.machine (omega arith) c.in_err-drop_node.ensures.err))

pub returns-in_err-delete_orphan-clause-err : goal.returns-in_err-delete_orphan-clause-err
returns-in_err-delete_orphan-clause-err g c =
    let p = err_from_is_err_and c.from_residual-in_err-delete_orphan.result c.from_residual-in_err-delete_orphan.ensures.1 in
    let fault = c.in_err-delete_orphan.field-0.0 in
    let new = c.delete_orphan.new.running.tx.machine in
    rw (p.1, p.2) (inl (fails_following c.args.running.now.tx c.drop_node.new.running.tx (chunks_for c.args.size + 1) 1 (2 + chunks_for c.args.size) fault new
    (goes_follows c.args.running.now.tx c.drop_node.new.running.tx c.args.node c.args.size c.in_ok-drop_node.ensures.goes) (omega arith)
    (deletion_fails c.drop_node.new.running.tx (orphan_key c.args.node) fault new c.in_err-delete_orphan.ensures.err)))

pub returns-in_err-change-clause-err : goal.returns-in_err-change-clause-err
returns-in_err-change-clause-err g c =
    let p = err_from_is_err_and c.from_residual-in_err-change.result c.from_residual-in_err-change.ensures.1 in
    let size = c.args.size in
    let fault = c.in_err-change.field-0.0 in
    let new = c.change.new.self.tx.machine in
    let mid = c.drop_node.new.running.tx in
    let r = c.delete_orphan.new.running.tx in
    let is = c.in_ok-delete_orphan.ensures.ok in
    let next : c.head-next.result.next ≡ mid.next = c.head-next.ensures.next ∙ ap (λ (x : Tx). x.next) is in
    let weighed = subst (λ (n : ℕ). ChangeFault r (4 + c.chunks_for.result) n fault new) next c.in_err-change.ensures.err in
    let counted = subst (λ (n : ℕ). ChangeFault r (4 + n) mid.next fault new) c.chunks_for.ensures weighed in
    let failed = subst (λ (x : Tx). ChangeFault x (4 + chunks_for size) mid.next fault new) is counted in
    rw (p.1, p.2) (inr (mid, c.in_ok-drop_node.ensures.goes, failed))

pub returns-clause-releases : goal.returns-clause-releases
returns-clause-releases g c =
    let mid = c.drop_node.new.running.tx in
    let is = c.in_ok-delete_orphan.ensures.ok in
    record {
      mid = mid;
      goes = c.in_ok-drop_node.ensures.goes;
      change = c.in_ok-change.ensures.ok ∙ (λ i. one_change (is i) (4 + c.chunks_for.ensures i) ((c.head-next.ensures.next ∙ ap (λ (x : Tx). x.next) is) i));
    }
