use Rattle.std.proofs.Common.{◌≡◌, ◌+◌, sum_by}
use Rattle.kfs_plain.specs.Plain.{bytes_in}
use Rattle.kfs_plain.proofs.tree.total.Given as goal

-- the bytes so far, and those that are left
abbrev pub invariant-loop-node : goal.invariant-loop-node
invariant-loop-node l = l.bytes + sum_by (λ e. bytes_in e.1) l.node-iterator ≡ sum_by (λ e. bytes_in e.1) l.t.files.nodes.entries
