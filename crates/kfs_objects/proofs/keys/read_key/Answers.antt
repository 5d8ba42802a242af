use Rattle.std.proofs.Common.{rules, arith}
use Rattle.kfs_objects.proofs.Forms.{formed, of_super, of_inode, of_entry, of_chunk, of_orphan}
use Rattle.kfs_objects.proofs.keys.read_key.Goals as goal

pub returns-in-115-eq1-clause-some : goal.returns-in-115-eq1-clause-some
returns-in-115-eq1-clause-some c = of_super _ (search rules) (search rules)

pub returns-in-105-eq9-clause-some : goal.returns-in-105-eq9-clause-some
returns-in-105-eq9-clause-some c = of_inode _ _ (search rules) (search rules) (search rules) (search rules) (omega arith)

pub returns-in-101-10-to-264-clause-some : goal.returns-in-101-10-to-264-clause-some
returns-in-101-10-to-264-clause-some c = of_entry _ _ (search rules) (search rules) (search rules) (search rules) (search rules) (omega arith)

pub returns-in-100-eq13-clause-some : goal.returns-in-100-eq13-clause-some
returns-in-100-eq13-clause-some c = of_chunk _ _ _ (search rules) (search rules) (search rules) (search rules) (search rules) (omega arith) (omega arith)

pub returns-in-111-eq9-clause-some : goal.returns-in-111-eq9-clause-some
returns-in-111-eq9-clause-some c = of_orphan _ _ (search rules) (search rules) (search rules) (search rules) (omega arith)

pub returns-in_default-2-clause-none : goal.returns-in_default-2-clause-none
returns-in_default-2-clause-none c = λ object. let form = formed _ object in grind arith

pub returns-in_default-3-clause-none : goal.returns-in_default-3-clause-none
returns-in_default-3-clause-none c = λ object. let form = formed _ object in grind arith

pub returns-in_default-5-clause-none : goal.returns-in_default-5-clause-none
returns-in_default-5-clause-none c = λ object. let form = formed _ object in grind arith

pub returns-in_default-6-clause-none : goal.returns-in_default-6-clause-none
returns-in_default-6-clause-none c = λ object. let form = formed _ object in grind arith
