use Rattle.std.proofs.Common.{◌≡◌, ◌≤◌, ◌-◌, max}
use Rattle.kfs_tx.specs.Tx.{Aged, seen}
use Rattle.kfs_file.specs.Contents.{ReadsFile}
use Rattle.kfs_file.proofs.reading.read_at.Given as goal

-- the bytes up to a place are read
abbrev pub invariant-loop-place : goal.invariant-loop-place
invariant-loop-place g l = record {
  from : l.offset ≤ l.place;
  within : l.place ≤ max l.offset l.end;
  reads : ReadsFile (seen l.fn.running.tx) l.node l.size l.offset (l.place - l.offset) l.text;
  same : l.running.tx ≡ l.fn.running.tx;
  age : Aged l.fn.running l.running 0;
}

abbrev pub decreases-loop-place : goal.decreases-loop-place
decreases-loop-place g l = l.end - l.place
