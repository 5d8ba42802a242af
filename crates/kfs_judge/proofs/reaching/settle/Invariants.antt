use Rattle.std.proofs.Common.{◌≤◌, length, take}
use Rattle.kfs_judge.specs.Reaching.{Settles}
use Rattle.kfs_judge.proofs.reaching.settle.Given as goal

-- the edges so far are settled
abbrev pub invariant-loop-edge : goal.invariant-loop-edge
invariant-loop-edge l = record {
  settles : Settles l.fn.reached (take l.edge-index l.waiting) l.left.items l.reached;
  fewer : length l.left.items ≤ l.edge-index;
}
