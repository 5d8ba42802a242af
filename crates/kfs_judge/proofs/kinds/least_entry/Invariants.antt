use Rattle.std.proofs.Common.{take}
use Rattle.kfs_judge.specs.Tables.{IsLeastOf, bad_entry}
use Rattle.kfs_judge.proofs.kinds.least_entry.Given as goal

-- the least of the rows so far
abbrev pub invariant-loop-row : goal.invariant-loop-row
invariant-loop-row l = IsLeastOf (bad_entry l.tables) (take l.row-index l.rows) l.least
