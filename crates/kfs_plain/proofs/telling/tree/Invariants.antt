use Rattle.std.proofs.Common.{◌≡◌, ◌++◌, map}
use Rattle.kfs_model.specs.Step.{item_of}
use Rattle.kfs_plain.specs.Tables.{tree_of}
use Rattle.kfs_plain.proofs.telling.tree.Given as goal

-- the items so far, and those that are left
abbrev pub invariant-loop-place : goal.invariant-loop-place
invariant-loop-place l = l.items ++ map (item_of (tree_of l.files)) l.place-iterator ≡ map (item_of (tree_of l.files)) l.files.names.entries
