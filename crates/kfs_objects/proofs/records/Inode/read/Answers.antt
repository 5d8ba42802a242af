use Rattle.std.proofs.Common.{rules, arith}
use Rattle.kfs_objects.proofs.Spelling.{inode_spelled, no_inode}
use Rattle.kfs_objects.proofs.records.Inode.read.Goals as goal

pub returns-then-bytes-ne10-clause-none : goal.returns-then-bytes-ne10-clause-none
returns-then-bytes-ne10-clause-none c = no_inode _ (search rules)

pub returns-else-length-eq0-clause-none : goal.returns-else-length-eq0-clause-none
returns-else-length-eq0-clause-none c = no_inode _ (search rules)

pub returns-then-length-eq0-clause-some : goal.returns-then-length-eq0-clause-some
returns-then-length-eq0-clause-some c = inode_spelled _ _ _ (search rules) (search rules) (search rules) (search rules) (search rules) (search rules) (omega arith)
