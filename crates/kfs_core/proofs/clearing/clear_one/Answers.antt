use Rattle.std.proofs.Common.{◌+◌, ◌∙◌, ap, subst, arith}
use Rattle.std.proofs.lemmas.Result.{err_from_is_err_and}
use Rattle.kfs_tx.specs.Tx.{Tx, committed, seen, CommitFault}
use Rattle.kfs_core.specs.Removing.{Goes, chunks_for}
use Rattle.kfs_file.specs.Contents.{FailsWithin}
use Rattle.kfs_core.proofs.Cleared.{one_cleared, commit_clears, delete_clears, fails_clear}
use Rattle.kfs_core.proofs.Fewer.{goes_fewer}
use Rattle.kfs_core.proofs.Fresh.{fresh_ready}
use Rattle.kfs_core.proofs.Swept.{deleted_roomy, one_swept, formed, inode_stands, short_stands}
use Rattle.kfs_core.proofs.clearing.clear_one.Goals as goal

pub orphan_of-node-requires-clause-form : goal.orphan_of-node-requires-clause-form
orphan_of-node-requires-clause-form g c = formed (seen c.args.running.now.tx) c.args.key.now c.requires.tidy c.requires.there

pub inode_there-requires-clause-there : goal.inode_there-requires-clause-there
inode_there-requires-clause-there g c = inode_stands (seen c.args.running.now.tx) c.args.key.now c.orphan_of-node.result c.requires.tidy (omega arith) c.orphan_of-node.ensures.is c.orphan_of-node.ensures.named c.requires.there

pub drop_node-requires-clause-size : goal.drop_node-requires-clause-size
drop_node-requires-clause-size g c = short_stands (seen c.args.running.now.tx) c.args.key.now c.orphan_of-node.result c.in_ok-it.it.kind c.in_ok-it.it.length c.requires.tidy (omega arith) c.orphan_of-node.ensures.is c.orphan_of-node.ensures.named c.in_ok-it.ensures.gives

pub returns-in_err-drop_node-clause-err : goal.returns-in_err-drop_node-clause-err
returns-in_err-drop_node-clause-err g c =
    let p = err_from_is_err_and c.from_residual-in_err-drop_node.result c.from_residual-in_err-drop_node.ensures.1 in
    let fault = c.in_err-drop_node.field-0.0 in
    let new = c.drop_node.new.running.tx.machine in
    let short = short_stands (seen c.args.running.now.tx) c.args.key.now c.orphan_of-node.result c.in_ok-it.it.kind c.in_ok-it.it.length c.requires.tidy (omega arith) c.orphan_of-node.ensures.is c.orphan_of-node.ensures.named c.in_ok-it.ensures.gives in
    rw (p.1, p.2) (fails_clear c.args.running.now.tx (1 + chunks_for c.in_ok-it.it.length) fault new c.requires.fresh (omega arith)
    (subst (λ (r : Tx). FailsWithin r (1 + chunks_for c.in_ok-it.it.length) fault new) c.in_ok-it.ensures.same c.in_err-drop_node.ensures.err))

pub returns-in_err-commit-clause-err : goal.returns-in_err-commit-clause-err
returns-in_err-commit-clause-err g c =
    let p = err_from_is_err_and c.from_residual-in_err-commit.result c.from_residual-in_err-commit.ensures.1 in
    let fault = c.in_err-commit.field-0.0 in
    let new = c.commit.new.self.tx.machine in
    let short = short_stands (seen c.args.running.now.tx) c.args.key.now c.orphan_of-node.result c.in_ok-it.it.kind c.in_ok-it.it.length c.requires.tidy (omega arith) c.orphan_of-node.ensures.is c.orphan_of-node.ensures.named c.in_ok-it.ensures.gives in
    let goes = subst (λ (r : Tx). Goes r c.orphan_of-node.result c.in_ok-it.it.length c.drop_node.new.running.tx) c.in_ok-it.ensures.same c.in_ok-drop_node.ensures.goes in
    rw (p.1, p.2) (commit_clears c.args.running.now.tx c.drop_node.new.running.tx c.args.key.now c.orphan_of-node.result c.in_ok-it.it.kind c.in_ok-it.it.length c.requires.fresh c.requires.there c.orphan_of-node.ensures.is (omega arith) c.in_ok-it.ensures.gives short goes (deleted_roomy c.args.running.now.tx c.drop_node.new.running.tx c.orphan_of-node.result c.in_ok-it.it.length goes (fresh_ready c.args.running.now.tx c.requires.fresh) (omega arith) short c.args.key.now c.orphan_of-node.ensures.is c.requires.room) fault new
    (subst (λ (r : Tx). CommitFault r fault new) c.in_ok-delete.ensures.ok c.in_err-commit.ensures.err))

pub returns-clause-fewer : goal.returns-clause-fewer
returns-clause-fewer g c =
    let short = short_stands (seen c.args.running.now.tx) c.args.key.now c.orphan_of-node.result c.in_ok-it.it.kind c.in_ok-it.it.length c.requires.tidy (omega arith) c.orphan_of-node.ensures.is c.orphan_of-node.ensures.named c.in_ok-it.ensures.gives in
    let goes = subst (λ (r : Tx). Goes r c.orphan_of-node.result c.in_ok-it.it.length c.drop_node.new.running.tx) c.in_ok-it.ensures.same c.in_ok-drop_node.ensures.goes in
    goes_fewer c.args.running.now.tx c.drop_node.new.running.tx c.orphan_of-node.result c.in_ok-it.it.length goes (fresh_ready c.args.running.now.tx c.requires.fresh) (omega arith) short c.args.key.now c.orphan_of-node.ensures.is c.requires.there c.commit.new.self.tx
    (c.in_ok-commit.ensures.ok ∙ ap committed c.in_ok-delete.ensures.ok)

pub returns-clause-sweeps : goal.returns-clause-sweeps
returns-clause-sweeps g c =
    let short = short_stands (seen c.args.running.now.tx) c.args.key.now c.orphan_of-node.result c.in_ok-it.it.kind c.in_ok-it.it.length c.requires.tidy (omega arith) c.orphan_of-node.ensures.is c.orphan_of-node.ensures.named c.in_ok-it.ensures.gives in
    let goes = subst (λ (r : Tx). Goes r c.orphan_of-node.result c.in_ok-it.it.length c.drop_node.new.running.tx) c.in_ok-it.ensures.same c.in_ok-drop_node.ensures.goes in
    one_swept c.args.running.now.tx c.drop_node.new.running.tx c.orphan_of-node.result c.in_ok-it.it.length goes (fresh_ready c.args.running.now.tx c.requires.fresh) (omega arith) short c.args.key.now c.orphan_of-node.ensures.is c.commit.new.self.tx
    (c.in_ok-commit.ensures.ok ∙ ap committed c.in_ok-delete.ensures.ok)

pub returns-clause-clears : goal.returns-clause-clears
returns-clause-clears g c =
    let short = short_stands (seen c.args.running.now.tx) c.args.key.now c.orphan_of-node.result c.in_ok-it.it.kind c.in_ok-it.it.length c.requires.tidy (omega arith) c.orphan_of-node.ensures.is c.orphan_of-node.ensures.named c.in_ok-it.ensures.gives in
    let goes = subst (λ (r : Tx). Goes r c.orphan_of-node.result c.in_ok-it.it.length c.drop_node.new.running.tx) c.in_ok-it.ensures.same c.in_ok-drop_node.ensures.goes in
    one_cleared c.args.running.now.tx c.drop_node.new.running.tx c.args.key.now c.orphan_of-node.result c.in_ok-it.it.kind c.in_ok-it.it.length c.requires.fresh c.requires.there c.orphan_of-node.ensures.is (omega arith) c.in_ok-it.ensures.gives short goes c.commit.new.self.tx
    (c.in_ok-commit.ensures.ok ∙ ap committed c.in_ok-delete.ensures.ok)

pub returns-in_err-delete-clause-err : goal.returns-in_err-delete-clause-err
returns-in_err-delete-clause-err g c =
    let p = err_from_is_err_and c.from_residual-in_err-delete.result c.from_residual-in_err-delete.ensures.1 in
    let fault = c.in_err-delete.field-0.0 in
    let new = c.delete.new.self.tx.machine in
    let short = short_stands (seen c.args.running.now.tx) c.args.key.now c.orphan_of-node.result c.in_ok-it.it.kind c.in_ok-it.it.length c.requires.tidy (omega arith) c.orphan_of-node.ensures.is c.orphan_of-node.ensures.named c.in_ok-it.ensures.gives in
    let goes = subst (λ (r : Tx). Goes r c.orphan_of-node.result c.in_ok-it.it.length c.drop_node.new.running.tx) c.in_ok-it.ensures.same c.in_ok-drop_node.ensures.goes in
    rw (p.1, p.2) (delete_clears c.args.running.now.tx c.drop_node.new.running.tx c.orphan_of-node.result c.in_ok-it.it.length goes c.requires.fresh short c.args.key.now fault new c.in_err-delete.ensures.err)
