use Rattle.std.proofs.Common.{◌-◌}
use Rattle.kfs_tx.specs.Tx.{Aged}
use Rattle.kfs_file.specs.Contents.{ChangesAtMost, RemovesChunks}
use Rattle.kfs_file.proofs.removing.remove_chunks.Given as goal

-- the first chunks are gone
abbrev pub invariant-loop-chunk : goal.invariant-loop-chunk
invariant-loop-chunk g l = record {
  removes : RemovesChunks l.fn.running.tx l.node l.from l.chunk l.running.tx;
  keys : ChangesAtMost l.fn.running.tx (l.chunk - l.from) l.running.tx;
  age : Aged l.fn.running l.running 0;
}
