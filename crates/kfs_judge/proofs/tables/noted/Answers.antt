use Rattle.kfs_judge.proofs.Noting.{tables_more}
use Rattle.kfs_judge.proofs.tables.noted.Goals as goal

pub loop-row-preserved : goal.loop-row-preserved
loop-row-preserved c = tables_more c.args.rows.now c.loop-row.row-index _ c.loop-row.tables c.note.new.self c.loop-row-test.true c.loop-row.invariant c.in_ok-note.ensures
