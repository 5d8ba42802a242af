use Rattle.std.proofs.Common.{ℕ, ◌≡◌, ◌+◌, inl, inr, ◌∙◌, ap, subst}
use Rattle.std.proofs.lemmas.Result.{err_from_is_err_and}
use Rattle.kfs_tx.specs.Tx.{Tx, one_change, ChangeFault}
use Rattle.kfs_core.specs.Files.{with_length}
use Rattle.kfs_core.specs.Resizing.{keys_cut}
use Rattle.kfs_core.proofs.resizing.resize.Goals as goal

pub returns-in_err-change-clause-err : goal.returns-in_err-change-clause-err
returns-in_err-change-clause-err g c =
    let p = err_from_is_err_and c.from_residual-in_err-change.result c.from_residual-in_err-change.ensures.1 in
    let fault = c.in_err-change.field-0.0 in
    let new = c.change.new.self.tx.machine in
    let put = c.put_length.new.running.tx in
    let r = c.put_inode.new.running.tx in
    let is : r ≡ with_length put c.args.node c.args.length = c.in_ok-put_inode.ensures.ok in
    let next : c.head-next.result.next ≡ put.next = c.head-next.ensures.next ∙ ap (λ (x : Tx). x.next) is in
    let weighed = subst (λ (n : ℕ). ChangeFault r (2 + c.keys_cut-cut.result) n fault new) next c.in_err-change.ensures.err in
    let counted = subst (λ (n : ℕ). ChangeFault r (2 + n) put.next fault new) c.keys_cut-cut.ensures.gives weighed in
    let failed = subst (λ (x : Tx). ChangeFault x (2 + keys_cut c.args.size c.args.length) put.next fault new) is counted in
    rw (p.1, p.2) (inr (put, c.in_ok-put_length.ensures.puts, inr failed))

pub returns-clause-resizes : goal.returns-clause-resizes
returns-clause-resizes g c =
    let put = c.put_length.new.running.tx in
    let is : c.put_inode.new.running.tx ≡ with_length put c.args.node c.args.length = c.in_ok-put_inode.ensures.ok in
    (put, c.in_ok-put_length.ensures.puts, c.in_ok-change.ensures.ok ∙ (λ i. one_change (is i) (2 + c.keys_cut-cut.ensures.gives i) ((c.head-next.ensures.next ∙ ap (λ (x : Tx). x.next) is) i)))

pub returns-in_err-put_inode-clause-err : goal.returns-in_err-put_inode-clause-err
returns-in_err-put_inode-clause-err g c =
    let p = err_from_is_err_and c.from_residual-in_err-put_inode.result c.from_residual-in_err-put_inode.ensures.1 in
    rw (p.1, p.2) (inr (c.put_length.new.running.tx, c.in_ok-put_length.ensures.puts, inl c.in_err-put_inode.ensures.err))
