use Rattle.std.proofs.Common.{◌≡◌}
use Rattle.std.specs.Prelude.{◌==◌}
use Rattle.std.specs.List.{list_any}
use Rattle.kfs_plain.proofs.opening.has_description.Given as goal

abbrev pub invariant-loop-n : goal.invariant-loop-n
invariant-loop-n l = list_any (λ e. e.1 == l.number) l.n-iterator ≡ list_any (λ e. e.1 == l.number) l.descriptors.entries
