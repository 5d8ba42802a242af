use Rattle.std.proofs.Common.{◌≡◌, ◌+◌, sum_by}
use Rattle.kfs_model.specs.Tree.{chunks_of}
use Rattle.kfs_plain.proofs.room.count_chunks.Given as goal

-- the chunks so far, and those that are left
abbrev pub invariant-loop-node : goal.invariant-loop-node
invariant-loop-node l = l.chunks + sum_by (λ e. chunks_of e.1) l.node-iterator ≡ sum_by (λ e. chunks_of e.1) l.nodes.entries
