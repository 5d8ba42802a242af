use Rattle.std.proofs.Common.{◌≡◌, ◌++◌}
use Rattle.std.specs.List.{filter_map}
use Rattle.kfs_model.specs.Tree.{child, names_in}
use Rattle.kfs_plain.specs.Tables.{tree_of}
use Rattle.kfs_plain.proofs.walking.names_in.Given as goal

-- the names so far, and those among the places that are left
abbrev pub invariant-loop-q : goal.invariant-loop-q
invariant-loop-q l = l.names ++ filter_map (λ e. child l.place e.0) l.q-iterator ≡ names_in (tree_of l.files) l.place
