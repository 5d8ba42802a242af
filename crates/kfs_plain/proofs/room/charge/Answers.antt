use Rattle.kfs_plain.proofs.Entries.{sorted_test}
use Rattle.kfs_plain.proofs.room.charge.Goals as goal

pub returns-clause-sorted : goal.returns-clause-sorted
returns-clause-sorted c = sorted_test c.args.t.now.files.nodes.entries c.len.ensures.ordered
