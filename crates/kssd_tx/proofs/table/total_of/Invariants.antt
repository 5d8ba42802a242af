use Rattle.std.proofs.Common.{◌≡◌, ◌≤◌, ◌*◌, take}
use Rattle.kssd_tx.specs.Lists.{change_count}
use Rattle.kssd_tx.proofs.table.total_of.Given as goal

abbrev pub invariant-loop-slot : goal.invariant-loop-slot
invariant-loop-slot l = record {
  counted : l.total ≡ change_count (take l.slot-index l.slots);
  bounded : l.total ≤ 640 * l.slot-index;
}
