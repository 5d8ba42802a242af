use Rattle.std.proofs.Common.{◌≡◌, take}
use Rattle.kfs_judge.specs.Reaching.{edges_in}
use Rattle.kfs_judge.proofs.reaching.edges_of.Given as goal

-- those of the rows so far
abbrev pub invariant-loop-row : goal.invariant-loop-row
invariant-loop-row l = l.edges.items ≡ edges_in (take l.row-index l.rows)
