use Rattle.std.proofs.Common.{◌≡◌, ◌+◌, ◌*◌, ◌≤◌, sum_by, take}
use Rattle.kfs_judge.specs.Tables.{taken_by, keys_for, chunks_for}
use Rattle.kfs_judge.proofs.kinds.taken.Given as goal

-- what the nodes of the rows so far take
abbrev pub invariant-loop-row : goal.invariant-loop-row
invariant-loop-row l = record {
  keys : l.all.keys ≡ 1 + sum_by (taken_by keys_for l.tables) (take l.row-index l.rows);
  chunks : l.all.chunks ≡ sum_by (taken_by chunks_for l.tables) (take l.row-index l.rows);
  most : l.all.keys ≤ 1 + 258 * l.row-index;
  fewer : l.all.chunks ≤ l.all.keys;
}
