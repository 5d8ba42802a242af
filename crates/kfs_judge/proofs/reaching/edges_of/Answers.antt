use Rattle.kfs_judge.proofs.Reached.{edges_more}
use Rattle.kfs_judge.proofs.reaching.edges_of.Goals as goal

pub loop-row-preserved : goal.loop-row-preserved
loop-row-preserved c = edges_more c.args.rows.now c.loop-row.row-index _ c.loop-row.edges.items c.push_edge.new.edges.items c.loop-row-test.true c.loop-row.invariant c.in_ok-push_edge.ensures
