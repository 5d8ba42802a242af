use Rattle.std.proofs.Common.{◌≡◌, ◌++◌, map}
use Rattle.kfs_model.specs.Tree.{moved}
use Rattle.kfs_plain.proofs.removing.moved_entries.Given as goal

-- the entries so far, and those that are left
abbrev pub invariant-loop-place : goal.invariant-loop-place
invariant-loop-place l = l.entries.items ++ map (moved l.old l.new) l.place-iterator ≡ map (moved l.old l.new) l.names.entries
