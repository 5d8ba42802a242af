use Rattle.std.proofs.Common.{◌≡◌}
use Rattle.std.specs.List.{filter_map}
use Rattle.kfs_model.specs.Tree.{child, names_in}
use Rattle.kfs_plain.specs.Tables.{tree_of}
use Rattle.kfs_plain.proofs.walking.isnt_empty.Given as goal

-- the names in the directory are among the places that are left
abbrev pub invariant-loop-q : goal.invariant-loop-q
invariant-loop-q l = filter_map (λ e. child l.place e.0) l.q-iterator ≡ names_in (tree_of l.files) l.place
