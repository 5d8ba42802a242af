use Rattle.std.proofs.Common.{ℕ, ◌+◌, inr, ◌∙◌, subst}
use Rattle.std.proofs.lemmas.Result.{err_from_is_err_and}
use Rattle.kfs_tx.specs.Tx.{one_change, ChangeFault}
use Rattle.kfs_core.proofs.removing.take_name.Goals as goal

pub returns-in_err-change-clause-err : goal.returns-in_err-change-clause-err
returns-in_err-change-clause-err g c =
    let p = err_from_is_err_and c.from_residual-in_err-change.result c.from_residual-in_err-change.ensures.1 in
    let fault = c.in_err-change.field-0.0 in
    let new = c.change.new.self.tx.machine in
    let mid = c.unname.new.running.tx in
    let weighed = subst (λ (n : ℕ). ChangeFault mid (4 + c.chunks_lost-chunks.result) n fault new) c.head-next.ensures.next c.in_err-change.ensures.err in
    let failed = subst (λ (n : ℕ). ChangeFault mid (4 + n) mid.next fault new) c.chunks_lost-chunks.ensures.gives weighed in
    rw (p.1, p.2) (inr (mid, c.in_ok-unname.ensures.unnames, failed))

pub returns-clause-unlinks : goal.returns-clause-unlinks
returns-clause-unlinks g c =
    let mid = c.unname.new.running.tx in
    record {
      mid = mid;
      unnames = c.in_ok-unname.ensures.unnames;
      change = c.in_ok-change.ensures.ok ∙ (λ i. one_change mid (4 + c.chunks_lost-chunks.ensures.gives i) (c.head-next.ensures.next i));
    }
