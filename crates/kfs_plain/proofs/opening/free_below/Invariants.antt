use Rattle.std.proofs.Common.{◌≡◌, ◌-◌}
use Rattle.kfs_model.specs.Desk.{free_from}
use Rattle.kfs_plain.specs.Tables.{desk_of}
use Rattle.kfs_plain.proofs.opening.free_below.Given as goal

-- every lower descriptor is open
abbrev pub invariant-loop-fd : goal.invariant-loop-fd
invariant-loop-fd l = free_from (desk_of l.desk) l.fd-counter (l.limit - l.fd-counter) ≡ free_from (desk_of l.desk) 0 l.limit
