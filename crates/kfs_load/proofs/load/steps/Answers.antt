use Rattle.std.proofs.Common.{◌≡◌, ◌+◌, ◌-◌, suc, arith}
use Rattle.kfs_load.proofs.Steps.{steps_more}
use Rattle.kfs_load.proofs.load.steps.Goals as goal

pub loop-preserved : goal.loop-preserved
loop-preserved c =
    let left : c.args.count - c.loop.counter ≡ suc (c.args.count - (c.loop.counter + 1)) = omega arith in
    steps_more _ _ _ c.loop.draws.state c.step.new.draws.state (c.args.count - c.loop.counter) (c.args.count - (c.loop.counter + 1)) left c.in_ok-step.ensures c.loop.invariant
