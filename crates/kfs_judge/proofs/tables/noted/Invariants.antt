use Rattle.std.proofs.Common.{take}
use Rattle.kfs_judge.specs.Tables.{AreTables}
use Rattle.kfs_judge.proofs.tables.noted.Given as goal

-- the tables of the rows so far
abbrev pub invariant-loop-row : goal.invariant-loop-row
invariant-loop-row l = AreTables (take l.row-index l.rows) l.tables
