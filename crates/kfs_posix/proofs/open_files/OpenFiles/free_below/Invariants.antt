use Rattle.std.proofs.Common.{◌≡◌, ◌-◌}
use Rattle.kfs_model.specs.Desk.{free_from}
use Rattle.kfs_posix.specs.Opens.{desk_of}
use Rattle.kfs_posix.proofs.open_files.OpenFiles.free_below.Given as goal

-- every lower descriptor is open
abbrev pub invariant-loop-fd : goal.invariant-loop-fd
invariant-loop-fd l = free_from (desk_of l.self.opens) l.fd (l.limit - l.fd) ≡ free_from (desk_of l.self.opens) 0 l.limit
