use Rattle.std.proofs.Common.{◌≡◌, ◌≤◌, ◌*◌, take, map, option_map}
use Rattle.kv_device.specs.Machine.{change_count}
use Rattle.kv_device.proofs.changes.change_total.Given as goal

abbrev pub invariant-loop-slot : goal.invariant-loop-slot
invariant-loop-slot l = record {
  counted : l.total ≡ change_count (map (option_map (λ t. t.changes)) (take l.slot-index l.pending));
  bounded : l.total ≤ 640 * l.slot-index;
}
