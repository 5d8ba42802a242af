use Rattle.std.proofs.Common.{◌≡◌, ◌+◌, ℕ, length, inl, inr, ap, subst, ◌∙◌}
use Rattle.std.proofs.lemmas.Result.{err_from_is_err_and}
use Rattle.kfs_objects.specs.Keys.{inode_key}
use Rattle.kfs_objects.specs.Records.{inode_value}
use Rattle.kfs_model.specs.Change.{spanned}
use Rattle.kfs_tx.specs.Tx.{Tx, PutFault, ChangeFault, one_change}
use Rattle.kfs_core.specs.Files.{with_length}
use Rattle.kfs_core.specs.Room.{grown}
use Rattle.kfs_core.proofs.files.put_bytes.Goals as goal

pub returns-in_err-put_inode-clause-err : goal.returns-in_err-put_inode-clause-err
returns-in_err-put_inode-clause-err g c =
    let p = err_from_is_err_and c.from_residual-in_err-put_inode.result c.from_residual-in_err-put_inode.ensures.1 in
    let put = c.write_at.new.running.tx in
    rw (p.1, p.2) (inr (
      put,
      record { writes = c.in_ok-new.ensures.writes; keys = c.in_ok-new.ensures.keys },
      inl (subst (λ (n : ℕ). PutFault put (inode_key c.args.node) (inode_value 2 n) c.in_err-put_inode.field-0.0 c.put_inode.new.running.tx.machine) c.in_ok-new.ensures.size c.in_err-put_inode.ensures.err),
    ))

pub returns-in_err-change-clause-err : goal.returns-in_err-change-clause-err
returns-in_err-change-clause-err g c =
    let p = err_from_is_err_and c.from_residual-in_err-change.result c.from_residual-in_err-change.ensures.1 in
    let put = c.write_at.new.running.tx in
    let weight = 2 + spanned c.args.offset (length c.args.given.now) in
    let last = with_length put c.args.node (grown c.args.size c.args.offset (length c.args.given.now)) in
    let is : c.put_inode.new.running.tx ≡ last = c.in_ok-put_inode.ensures.ok ∙ ap (with_length put c.args.node) c.in_ok-new.ensures.size in
    let next : c.head-next.result.next ≡ put.next = c.head-next.ensures.next ∙ ap (λ (r : Tx). r.next) is in
    rw (p.1, p.2) (inr (
      put,
      record { writes = c.in_ok-new.ensures.writes; keys = c.in_ok-new.ensures.keys },
      inr (subst (λ (n : ℕ). ChangeFault last weight n c.in_err-change.field-0.0 c.change.new.self.tx.machine) next
          (subst (λ (r : Tx). ChangeFault r weight c.head-next.result.next c.in_err-change.field-0.0 c.change.new.self.tx.machine) is c.in_err-change.ensures.err)),
    ))

pub returns-clause-wrote : goal.returns-clause-wrote
returns-clause-wrote g c =
    let put = c.write_at.new.running.tx in
    let last = with_length put c.args.node (grown c.args.size c.args.offset (length c.args.given.now)) in
    let is : c.put_inode.new.running.tx ≡ last = c.in_ok-put_inode.ensures.ok ∙ ap (with_length put c.args.node) c.in_ok-new.ensures.size in
    let next : c.head-next.result.next ≡ put.next = c.head-next.ensures.next ∙ ap (λ (r : Tx). r.next) is in
    (put, record { writes = c.in_ok-new.ensures.writes; keys = c.in_ok-new.ensures.keys }, c.in_ok-change.ensures.ok ∙ (λ i. one_change (is i) (2 + spanned c.args.offset (length c.args.given.now)) (next i)))
