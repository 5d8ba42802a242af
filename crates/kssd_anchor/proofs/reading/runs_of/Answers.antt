use Rattle.std.proofs.lemmas.Result.{err_from_is_err_and}
use Rattle.kssd_model.specs.AnchorReading.{many_at, run_at}
use Rattle.kssd_anchor.proofs.Many.{goes_on, ends, is_done}
use Rattle.kssd_anchor.proofs.reading.runs_of.Goals as goal

pub returns-in_err-run : goal.returns-in_err-run
returns-in_err-run c =
    let p = err_from_is_err_and c.from_residual.result c.from_residual.ensures.1 in
    rw (p.1, p.2) (ends run_at c.in_err-run.field-0.0 c.loop-i.runs c.args.count c.loop-i.i c.loop-i.rest.now (many_at run_at c.args.count c.args.bytes.now) c.loop-i-test.true c.in_err-run.ensures c.loop-i.invariant)

pub loop-i-preserved : goal.loop-i-preserved
loop-i-preserved c =
    rw c.in_ok-push.ensures.ok (goes_on run_at c.loop-i.runs c.args.count c.loop-i.i c.loop-i.rest.now c.in_ok-run.run' c.in_ok-run.after.now (many_at run_at c.args.count c.args.bytes.now) c.loop-i-test.true c.in_ok-run.ensures c.loop-i.invariant)

pub returns : goal.returns
returns c = is_done run_at c.loop-i.runs c.args.count c.loop-i.i c.loop-i.rest.now (many_at run_at c.args.count c.args.bytes.now) c.loop-i-test.false c.loop-i.invariant
