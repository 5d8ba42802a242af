use Rattle.std.proofs.Common.{◌≡◌, ◌==◌}
use Rattle.std.specs.List.{list_any}
use Rattle.kfs_model.specs.Desk.{is_open}
use Rattle.kfs_posix.specs.Opens.{desk_of}
use Rattle.kfs_posix.proofs.open_files.OpenFiles.is_open.Given as goal

-- it is open where one that is left has it
abbrev pub invariant-loop-file : goal.invariant-loop-file
invariant-loop-file l =
    (goal.iterator-loop-file).can_next l.file-iterator ×
    (goal.iterator-loop-file).is_finite l.file-iterator ×
    (list_any (λ e. e.1.it.node == l.node) l.file-iterator ≡ is_open (desk_of l.self.opens) l.node)
