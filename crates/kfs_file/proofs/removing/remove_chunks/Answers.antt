use Rattle.std.proofs.Common.{◌-◌, arith}
use Rattle.std.proofs.lemmas.Result.{err_from_is_err_and}
use Rattle.kfs_file.proofs.GoneChunks.{removes_more, keys_more, removal_fails}
use Rattle.kfs_file.proofs.Spending.{aged_on}
use Rattle.kfs_file.proofs.removing.remove_chunks.Goals as goal

pub loop-chunk-preserved : goal.loop-chunk-preserved
loop-chunk-preserved g c =
    let before = c.loop-chunk.invariant in
    record {
      removes = removes_more c.args.running.now.tx c.loop-chunk.running.tx c.remove_piece.new.running.tx c.args.node c.args.from c.loop-chunk.chunk before.removes (omega arith) c.in_ok-remove_piece.ensures.ok;
      keys = keys_more c.args.running.now.tx c.loop-chunk.running.tx c.remove_piece.new.running.tx c.args.node c.args.from c.loop-chunk.chunk before.removes (omega arith) c.in_ok-remove_piece.ensures.ok before.keys;
      age = aged_on c.args.running.now c.loop-chunk.running c.remove_piece.new.running before.age c.in_ok-remove_piece.ensures.age;
    }

pub returns-in_err-remove_piece-clause-err : goal.returns-in_err-remove_piece-clause-err
returns-in_err-remove_piece-clause-err g c =
    let p = err_from_is_err_and c.from_residual.result c.from_residual.ensures.1 in
    let before = c.loop-chunk.invariant in
    rw (p.1, p.2)
    (removal_fails c.args.running.now.tx c.loop-chunk.running.tx c.args.node c.args.from c.loop-chunk.chunk (c.args.to - c.args.from) c.in_err-remove_piece.field-0.0 c.remove_piece.new.running.tx.machine before.removes before.keys (omega arith) c.in_err-remove_piece.ensures.err)
