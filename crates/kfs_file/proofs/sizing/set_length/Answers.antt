use Rattle.std.proofs.Common.{◌-◌, ◌%◌, subst, arith}
use Rattle.std.proofs.lemmas.Result.{on_ok_weaker, IfErr-weaker, err_from_is_err_and}
use Rattle.kfs_model.specs.Tree.{chunk_bytes, chunks_for}
use Rattle.kfs_file.specs.Contents.{touched, RemovesChunks}
use Rattle.kfs_file.proofs.Failing.{fails_weaker, fails_after}
use Rattle.kfs_file.proofs.Resizing.{resizes_longer, resizes_shorter}
use Rattle.kfs_file.proofs.sizing.set_length.Goals as goal

pub returns-then-old-new-clause-resizes : goal.returns-then-old-new-clause-resizes
returns-then-old-new-clause-resizes g c = resizes_longer c.args.running.now.tx c.args.node c.args.old c.args.new (omega arith)

pub returns-clause-resizes : goal.returns-clause-resizes
returns-clause-resizes g c = on_ok_weaker c.remove_chunks.result
    (λ removes. resizes_shorter c.args.running.now.tx c.cut_end.new.running.tx c.remove_chunks.new.running.tx c.args.node c.args.old c.args.new (omega arith) c.requires.old c.in_ok-cut_end.ensures.cuts
    (subst (λ n. RemovesChunks c.cut_end.new.running.tx c.args.node n (chunks_for c.args.old) c.remove_chunks.new.running.tx) c.chunks_for-from.ensures
    (subst (λ n. RemovesChunks c.cut_end.new.running.tx c.args.node c.chunks_for-from.result n c.remove_chunks.new.running.tx) c.chunks_for-to.ensures removes))) c.remove_chunks.ensures.removes

pub returns-clause-keys : goal.returns-clause-keys
returns-clause-keys g c = on_ok_weaker c.remove_chunks.result
    (λ more ready. let cut = c.in_ok-cut_end.ensures.keys ready in let gone = more (c.in_ok-cut_end.ensures.cuts.ready ready) in omega (arith, cut, gone, c.chunks_for-from.ensures, c.chunks_for-to.ensures)) c.remove_chunks.ensures.keys

pub returns-clause-err : goal.returns-clause-err
returns-clause-err g c = IfErr-weaker c.remove_chunks.result _ _
    (λ fault h. fails_after c.args.running.now.tx c.cut_end.new.running.tx (chunks_for (c.args.new % chunk_bytes)) (c.chunks_for-to.result - c.chunks_for-from.result) (touched c.args.new (c.args.old - c.args.new)) fault c.remove_chunks.new.running.tx.machine
    c.in_ok-cut_end.ensures.cuts.same c.in_ok-cut_end.ensures.cuts.ready c.in_ok-cut_end.ensures.keys (omega (arith, c.chunks_for-from.ensures, c.chunks_for-to.ensures)) h) c.remove_chunks.ensures.err

pub returns-in_err-cut_end-clause-err : goal.returns-in_err-cut_end-clause-err
returns-in_err-cut_end-clause-err g c =
    let p = err_from_is_err_and c.from_residual.result c.from_residual.ensures.1 in
    rw (p.1, p.2) (fails_weaker c.args.running.now.tx 1 (touched c.args.new (c.args.old - c.args.new)) c.in_err-cut_end.field-0.0 c.cut_end.new.running.tx.machine (omega arith) c.in_err-cut_end.ensures.err)
