use Rattle.std.proofs.Common.{◌+◌, arith}
use Rattle.std.proofs.lemmas.Result.{on_ok_weaker, IfErr-weaker}
use Rattle.kfs_objects.specs.Keys.{inode_key}
use Rattle.kfs_file.proofs.Failing.{fails_after}
use Rattle.kfs_core.specs.Removing.{chunks_for}
use Rattle.kfs_core.proofs.Dropped.{deletion_fails}
use Rattle.kfs_core.proofs.dropping.drop_node.Goals as goal

pub returns-clause-goes : goal.returns-clause-goes
returns-clause-goes g c = on_ok_weaker c.delete_inode.result (λ is. record {
  mid = c.remove.new.running.tx;
  chunks = c.in_ok-remove.ensures.removes;
  few = c.in_ok-remove.ensures.keys;
  inode = is;
}) c.delete_inode.ensures.ok

pub returns-clause-err : goal.returns-clause-err
returns-clause-err g c = IfErr-weaker c.delete_inode.result _ _
    (λ fault h. fails_after c.args.running.now.tx c.remove.new.running.tx (chunks_for c.args.size) 1 (1 + chunks_for c.args.size) fault c.delete_inode.new.running.tx.machine
    c.in_ok-remove.ensures.removes.same c.in_ok-remove.ensures.removes.ready c.in_ok-remove.ensures.keys (omega arith)
    (deletion_fails c.remove.new.running.tx (inode_key c.args.node) fault c.delete_inode.new.running.tx.machine h)) c.delete_inode.ensures.err
