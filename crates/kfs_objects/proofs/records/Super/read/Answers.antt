use Rattle.std.proofs.Common.{rules, arith}
use Rattle.kfs_objects.proofs.Spelling.{super_spelled, no_super}
use Rattle.kfs_objects.proofs.records.Super.read.Goals as goal

pub returns-then-bytes-ne17-clause-none : goal.returns-then-bytes-ne17-clause-none
returns-then-bytes-ne17-clause-none c = no_super _ (search rules)

pub returns-then-changes-clause-none : goal.returns-then-changes-clause-none
returns-then-changes-clause-none c = no_super _ (search rules)

pub returns-clause-some : goal.returns-clause-some
returns-clause-some c = super_spelled _ _ _ (search rules) (search rules) (search rules) (search rules) (search rules) (omega arith) (omega arith)
