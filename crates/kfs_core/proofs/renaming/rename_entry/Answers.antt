use Rattle.std.proofs.Common.{ℕ, ◌≡◌, ◌+◌, inl, inr, ◌∙◌, ap, subst, arith}
use Rattle.std.proofs.lemmas.Result.{err_from_is_err_and}
use Rattle.kfs_tx.specs.Tx.{Tx, one_change, ChangeFault}
use Rattle.kfs_file.proofs.Failing.{fails_weaker}
use Rattle.kfs_core.specs.Removing.{is_open_in}
use Rattle.kfs_core.specs.Renaming.{chunks_replaced, with_moved}
use Rattle.kfs_core.proofs.Naming.{fails_following}
use Rattle.kfs_core.proofs.Moving.{replaces_follows}
use Rattle.kfs_core.proofs.renaming.rename_entry.Goals as goal

pub returns-in_err-chunks-clause-err : goal.returns-in_err-chunks-clause-err
returns-in_err-chunks-clause-err g c =
    let p = err_from_is_err_and c.from_residual.result c.from_residual.ensures.1 in
    let n = chunks_replaced c.args.moving.now.replaced (is_open_in c.args.is_open.now) in
    rw (p.1, p.2) (inl (fails_weaker c.args.running.now.tx (1 + n) (3 + n) c.in_err-chunks.field-0.0 c.replace.new.running.tx.machine (omega arith) c.in_err-chunks.ensures.err))

pub returns-in_err-move_entry-clause-err : goal.returns-in_err-move_entry-clause-err
returns-in_err-move_entry-clause-err g c =
    let p = err_from_is_err_and c.from_residual-in_err-move_entry.result c.from_residual-in_err-move_entry.ensures.1 in
    let open_now = is_open_in c.args.is_open.now in
    let replaced = c.args.moving.now.replaced in
    let n = chunks_replaced replaced open_now in
    let follows = replaces_follows c.args.running.now.tx c.replace.new.running.tx replaced open_now c.in_ok-chunks.ensures.replaces in
    rw (p.1, p.2) (inl (fails_following c.args.running.now.tx c.replace.new.running.tx (1 + n) 2 (3 + n) c.in_err-move_entry.field-0.0 c.move_entry.new.running.tx.machine follows (omega arith) c.in_err-move_entry.ensures.err))

pub returns-in_err-change-clause-err : goal.returns-in_err-change-clause-err
returns-in_err-change-clause-err g c =
    let p = err_from_is_err_and c.from_residual-in_err-change.result c.from_residual-in_err-change.ensures.1 in
    let fault = c.in_err-change.field-0.0 in
    let new = c.change.new.self.tx.machine in
    let mid = c.replace.new.running.tx in
    let r = c.move_entry.new.running.tx in
    let moving = c.args.moving.now in
    let n = chunks_replaced moving.replaced (is_open_in c.args.is_open.now) in
    let is : r ≡ with_moved mid moving = c.in_ok-move_entry.ensures.ok in
    let next : c.head-next.result.next ≡ mid.next = c.head-next.ensures.next ∙ ap (λ (x : Tx). x.next) is in
    let weighed = subst (λ (k : ℕ). ChangeFault r (4 + c.in_ok-chunks.chunks) k fault new) next c.in_err-change.ensures.err in
    let counted = subst (λ (k : ℕ). ChangeFault r (4 + k) mid.next fault new) c.in_ok-chunks.ensures.chunks weighed in
    let failed = subst (λ (x : Tx). ChangeFault x (4 + n) mid.next fault new) is counted in
    rw (p.1, p.2) (inr (mid, c.in_ok-chunks.ensures.replaces, failed))

pub returns-clause-moves : goal.returns-clause-moves
returns-clause-moves g c =
    let mid = c.replace.new.running.tx in
    let moving = c.args.moving.now in
    let is : c.move_entry.new.running.tx ≡ with_moved mid moving = c.in_ok-move_entry.ensures.ok in
    record {
      mid = mid;
      replaces = c.in_ok-chunks.ensures.replaces;
      change = c.in_ok-change.ensures.ok ∙ (λ i. one_change (is i) (4 + c.in_ok-chunks.ensures.chunks i) ((c.head-next.ensures.next ∙ ap (λ (x : Tx). x.next) is) i));
    }
