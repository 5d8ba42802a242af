use Rattle.std.proofs.Common.{map, take}
use Rattle.kv_device.specs.Objects.{pair_of}
use Rattle.kfs_judge.specs.Rows.{Extends}
use Rattle.kfs_judge.proofs.reading.add_rows.Given as goal

-- the rows of the pairs so far
abbrev pub invariant-loop-pair : goal.invariant-loop-pair
invariant-loop-pair l = Extends (map pair_of (take l.pair-index l.pairs)) l.fn.rows.items l.rows.items
