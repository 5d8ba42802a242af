use Rattle.std.proofs.Common.{◌≡◌, ◌+◌, ◌-◌, suc, arith}
use Rattle.kfs_load.proofs.Steps.{dirs_more}
use Rattle.kfs_load.proofs.load.directories.Goals as goal

pub loop-a-preserved : goal.loop-a-preserved
loop-a-preserved c =
    let left : 10 - c.loop-a.a ≡ suc (10 - (c.loop-a.a + 1)) = omega arith in
    dirs_more _ _ _ c.in_ok-path.path c.loop-a.a (10 - c.loop-a.a) (10 - (c.loop-a.a + 1)) left c.in_ok-path.ensures c.in_ok-push.ensures.items c.loop-a.invariant
