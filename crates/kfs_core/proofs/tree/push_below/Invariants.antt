use Rattle.std.proofs.Common.{◌≡◌, ◌≤◌, ◌++◌, map, drop, reverse, length}
use Rattle.kv_device.specs.Objects.{pair_of}
use Rattle.kfs_core.specs.Listing.{at_of, place_below}
use Rattle.kfs_core.proofs.tree.push_below.Given as goal

abbrev pub decreases-loop-i : goal.decreases-loop-i
decreases-loop-i l = l.i

-- those from i on are pushed, the last one first
abbrev pub invariant-loop-i : goal.invariant-loop-i
invariant-loop-i l = record {
  within : l.i ≤ length l.pairs;
  pushed : map at_of l.todo.items ≡ map at_of l.fn.todo.items ++ reverse (map (place_below l.path) (map pair_of (drop l.i l.pairs)));
}
