use Rattle.std.proofs.Common.{◌≡◌, ◌++◌, map, option_map, take, drop}
use Rattle.kssd_tx.specs.Lists.{repointed}
use Rattle.kssd_tx.proofs.table.TxTable.repoint.Given as goal

abbrev pub invariant-loop-slot : goal.invariant-loop-slot
invariant-loop-slot l = l.slot-items ≡ map (option_map (map (repointed l.page l.other))) (take l.slot-index l.initial.slot-items) ++ drop l.slot-index l.initial.slot-items
