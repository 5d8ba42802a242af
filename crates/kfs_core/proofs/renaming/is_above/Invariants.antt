use Rattle.std.proofs.Common.{◌≡◌, ◌==◌, drop}
use Rattle.std.specs.List.{list_any}
use Rattle.kfs_core.proofs.renaming.is_above.Given as goal

-- it isn't among those so far
abbrev pub invariant-loop-directory : goal.invariant-loop-directory
invariant-loop-directory l = list_any (λ k. k == l.node) (drop l.directory-index l.above) ≡ list_any (λ k. k == l.node) l.above
