use Rattle.std.proofs.Common.{rules}
use Rattle.std.proofs.Math.Logic.{∥∥₁_elim}
use Rattle.kssd_run.proofs.PageSizes.{has_entries}
use Rattle.kssd_run.proofs.writer.first_key_of.Goals as goal

pub get-requires : goal.get-requires
get-requires c = (has_entries _ _ c.in-Ok.ensures.spelled.1).some

pub unreachable-requires : goal.unreachable-requires
unreachable-requires c = ∥∥₁_elim c.requires (λ x y. absurd x) (λ some. search rules)
