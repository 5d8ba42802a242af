use Rattle.std.proofs.Common.{◌<◌, ◌+◌, ◌-◌, ◌/◌, ◌%◌, ◌≡◌, arith, length, min, take, drop}
use Rattle.std.proofs.lemmas.Result.{err_from_is_err_and}
use Rattle.kfs_tx.specs.Tx.{changed_keys}
use Rattle.kfs_file.specs.Contents.{touched}
use Rattle.kfs_file.proofs.Pieces.{writes_nothing, writes_on, rest_length}
use Rattle.kfs_file.proofs.Spending.{spent_nothing, spent_on, one_key, one_to_spare, ages_nothing, ages_on}
use Rattle.kfs_file.proofs.Failing.{fails_between}
use Rattle.kfs_file.proofs.writing.write_at.Goals as goal

pub loop-done-init : goal.loop-done-init
loop-done-init g c = record {
  within = omega arith;
  writes = writes_nothing _ c.args.node c.args.offset;
  keys = λ ready. spent_nothing _ 1 c.args.offset (length c.args.bytes.now);
  ages = ages_nothing c.args.running.now c.args.offset (length c.args.bytes.now);
}

pub loop-done-preserved : goal.loop-done-preserved
loop-done-preserved g c =
    let r = c.args.running.now in
    let m = c.loop-done.running in
    let n = c.write_piece.new.running in
    let rest = rest_length c.loop-done.done c.args.bytes.now in
    let lt : c.loop-done.done < length c.args.bytes.now = c.loop-done-test.true in
    let least : c.min-count.result ≡ min (4096 - (c.args.offset + c.loop-done.done) % 4096) (length c.args.bytes.now - c.loop-done.done) = omega (arith, c.min-count.ensures, rest) in
    record {
      within = omega (arith, lt, least);
      writes = writes_on r.tx m.tx n.tx c.args.node c.args.offset c.loop-done.done c.min-count.result c.args.bytes.now c.loop-done.invariant.writes c.in_ok-write_piece.ensures.ok c.requires.fits lt c.min-count.ensures;
      keys = λ ready. spent_on _ _ _ 1 c.args.offset (length c.args.bytes.now) c.loop-done.done c.min-count.result (c.loop-done.invariant.keys ready) lt least (one_key m.tx n.tx c.args.node ((c.args.offset + c.loop-done.done) / 4096) ((c.args.offset + c.loop-done.done) % 4096) (take c.min-count.result (take (length c.args.bytes.now - c.loop-done.done) (drop c.loop-done.done c.args.bytes.now))) c.in_ok-write_piece.ensures.ok (c.loop-done.invariant.writes.ready ready));
      ages = ages_on r m n c.args.offset (length c.args.bytes.now) c.loop-done.done c.min-count.result c.loop-done.invariant.ages lt least c.in_ok-write_piece.ensures.age;
    }

pub returns-in_err-write_piece-clause-err : goal.returns-in_err-write_piece-clause-err
returns-in_err-write_piece-clause-err g c =
    let p = err_from_is_err_and c.from_residual.result c.from_residual.ensures.1 in
    let r = c.args.running.now in
    let m = c.loop-done.running in
    rw (p.1, p.2)
    (fails_between r.tx m.tx c.args.node ((c.args.offset + c.loop-done.done) / 4096) ((c.args.offset + c.loop-done.done) % 4096) (touched c.args.offset (length c.args.bytes.now))
    (take c.min-count.result (take (length c.args.bytes.now - c.loop-done.done) (drop c.loop-done.done c.args.bytes.now))) c.in_err-write_piece.field-0.0 c.write_piece.new.running.tx.machine
    c.loop-done.invariant.writes.same c.loop-done.invariant.writes.ready (λ ready. one_to_spare (changed_keys r.tx) (changed_keys m.tx) c.args.offset (length c.args.bytes.now) c.loop-done.done (c.loop-done.invariant.keys ready) c.loop-done-test.true) c.in_err-write_piece.ensures.err)
