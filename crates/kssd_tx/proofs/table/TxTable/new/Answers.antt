use Rattle.std.proofs.Common.{arith, refl}
use Rattle.kssd_tx.specs.Lists.{change_count}
use Rattle.kssd_tx.proofs.table.TxTable.new.Goals as goal

pub invariant_of-result : goal.invariant_of-result
unfolding change_count
invariant_of-result c = record { four = refl; few = omega arith }
