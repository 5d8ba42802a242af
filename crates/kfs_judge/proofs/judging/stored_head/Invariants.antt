use Rattle.std.proofs.Common.{◌≡◌, take}
use Rattle.kfs_judge.specs.Judged.{head_of}
use Rattle.kfs_judge.proofs.judging.stored_head.Given as goal

-- that of the rows so far
abbrev pub invariant-loop-row : goal.invariant-loop-row
invariant-loop-row l = l.found ≡ head_of (take l.row-index l.rows)
