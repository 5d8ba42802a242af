use Rattle.std.proofs.Common.{◌≤◌, ◌-◌, length, take}
use Rattle.kfs_tx.specs.Tx.{IsReady, changed_keys}
use Rattle.kfs_file.specs.Contents.{WritesFile}
use Rattle.kfs_file.proofs.Spending.{Spent, AgesSpent}
use Rattle.kfs_file.proofs.writing.write_at.Given as goal

-- the first bytes are written, and what the chunks that are left take is to spare
abbrev pub invariant-loop-done : goal.invariant-loop-done
invariant-loop-done g l = record {
  within : l.done ≤ length l.bytes;
  writes : WritesFile l.fn.running.tx l.node l.offset (take l.done l.bytes) l.running.tx;
  keys : IsReady l.fn.running.tx → Spent (changed_keys l.fn.running.tx) (changed_keys l.running.tx) 1 l.offset (length l.bytes) l.done;
  ages : AgesSpent l.fn.running l.running l.offset (length l.bytes) l.done;
}

abbrev pub decreases-loop-done : goal.decreases-loop-done
decreases-loop-done g l = length l.bytes - l.done
