use Rattle.std.proofs.Common.{length}
use Rattle.kfs_judge.specs.Reaching.{edges_in}
use Rattle.kfs_judge.proofs.Reached.{Passes}
use Rattle.kfs_judge.proofs.reaching.reach.Given as goal

-- each edge has reached its second node, or waits
abbrev pub invariant-loop-waiting : goal.invariant-loop-waiting
invariant-loop-waiting l = Passes (edges_in l.rows) l.waiting.items l.reached

-- each pass but the last takes one
abbrev pub decreases-loop-waiting : goal.decreases-loop-waiting
decreases-loop-waiting l = length l.waiting.items
