use Rattle.std.proofs.lemmas.Result.{err_from_is_err_and}
use Rattle.std.specs.Int.{w16}
use Rattle.kssd_model.specs.AnchorReading.{number_at, many_at}
use Rattle.kssd_anchor.proofs.Many.{goes_on, ends, is_done}
use Rattle.kssd_anchor.proofs.reading.blocks_of.Goals as goal

pub returns-in_err-block : goal.returns-in_err-block
returns-in_err-block c =
    let p = err_from_is_err_and c.from_residual.result c.from_residual.ensures.1 in
    rw (p.1, p.2) (ends (number_at w16) c.in_err-block.field-0.0 c.loop-i.blocks c.args.count c.loop-i.i c.loop-i.rest.now (many_at (number_at w16) c.args.count c.args.bytes.now) c.loop-i-test.true c.in_err-block.ensures c.loop-i.invariant)

pub loop-i-preserved : goal.loop-i-preserved
loop-i-preserved c =
    rw c.in_ok-push.ensures.ok (goes_on (number_at w16) c.loop-i.blocks c.args.count c.loop-i.i c.loop-i.rest.now c.in_ok-block.block c.in_ok-block.after.now (many_at (number_at w16) c.args.count c.args.bytes.now) c.loop-i-test.true c.in_ok-block.ensures c.loop-i.invariant)

pub returns : goal.returns
returns c = is_done (number_at w16) c.loop-i.blocks c.args.count c.loop-i.i c.loop-i.rest.now (many_at (number_at w16) c.args.count c.args.bytes.now) c.loop-i-test.false c.loop-i.invariant
