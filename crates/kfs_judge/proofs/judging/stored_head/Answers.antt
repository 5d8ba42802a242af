use Rattle.kfs_judge.proofs.Heads.{heads_more}
use Rattle.kfs_judge.proofs.judging.stored_head.Goals as goal

pub loop-row-preserved : goal.loop-row-preserved
loop-row-preserved c = heads_more c.args.rows.now c.loop-row.row-index _ c.loop-row.found c.later_head-found.result c.loop-row-test.true c.loop-row.invariant c.later_head-found.ensures
