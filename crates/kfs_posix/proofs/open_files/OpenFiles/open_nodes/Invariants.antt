use Rattle.std.proofs.Common.{◌≡◌, ◌++◌, ℕ, map}
use Rattle.kfs_objects.specs.Keys.{be64}
use Rattle.kfs_posix.specs.declared.open_files.OpenFile.{OpenFile}
use Rattle.kfs_posix.specs.Opens.{nodes_of}
use Rattle.kfs_posix.proofs.open_files.OpenFiles.open_nodes.Given as goal

-- the nodes so far, and those of the files that are left
abbrev pub invariant-loop-file : goal.invariant-loop-file
invariant-loop-file l =
    (goal.iterator-loop-file).can_next l.file-iterator ×
    (goal.iterator-loop-file).is_finite l.file-iterator ×
    (l.nodes ++ map (λ (e : ℕ × OpenFile). be64 e.1.it.node) l.file-iterator ≡ nodes_of l.self.opens)
