use Rattle.std.proofs.Common.{◌≡◌, drop}
use Rattle.kfs_core.specs.Removing.{is_open_in}
use Rattle.kfs_core.proofs.removing.is_open_in.Given as goal

-- it isn't among those so far
abbrev pub invariant-loop-open : goal.invariant-loop-open
invariant-loop-open l = is_open_in (drop l.open-index l.open-items) l.node ≡ is_open_in l.open-items l.node
