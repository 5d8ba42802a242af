use Rattle.kssd_recover.proofs.Tables.{may_put}
use Rattle.kssd_recover.proofs.log.put_all.Goals as goal

pub put-requires : goal.put-requires
put-requires c = may_put c.args.entries.now c.args.table.now c.loop-entry.table c.loop-entry.entry-index 2048 c.entry-item.result c.in_ok-copy.field-0 c.loop-entry-test.true c.entry-item.is c.in_ok-copy.ensures c.loop-entry.invariant c.requires
