use Rattle.std.proofs.Common.{rules, arith}
use Rattle.kfs_objects.proofs.Spelling.{entry_spelled, no_entry}
use Rattle.kfs_objects.proofs.records.EntryRecord.read.Goals as goal

pub returns-then-bytes-ne9-clause-none : goal.returns-then-bytes-ne9-clause-none
returns-then-bytes-ne9-clause-none c = no_entry _ (search rules)

pub returns-clause-some : goal.returns-clause-some
returns-clause-some c = entry_spelled _ _ (search rules) (search rules) (search rules) (search rules) (omega arith)
