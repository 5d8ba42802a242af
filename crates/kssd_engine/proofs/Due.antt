-- Nothing else is due where nothing is.
use Rattle.std.proofs.Common.{◌≡◌, ◌∙◌, Option, Some, None, refl, sym}
use Rattle.kssd_levels.specs.declared.kind.JobKind.{JobKind}
use Rattle.kssd_levels.specs.declared.kind.JobKind.TheVariants.{Flush, Zero, One, Collect}
use Rattle.kssd_index.specs.Working.{due_in}
use Rattle.kssd_mounted.specs.declared.mounted.Mounted.{Mounted}
use Rattle.kssd_work.specs.Working.{IsDue}
use Rattle.kssd_engine.specs.Keeping.{IsDueIn}

no_job : (m : Mounted) (kind : JobKind) → due_in m.index ≡ None → due_in m.index ≡ Some kind → ⊥
no_job m kind none due = let e : ◌≡◌ {A = Option JobKind} None (Some kind) = sym none ∙ due in cc

one_due : (m : Mounted) (job : Option JobKind) → IsDue m job → IsDue m None → job ≡ None
one_due m None due none = refl
one_due m (Some Flush) due none = absurd (no_job m Flush none.0 due)
one_due m (Some Zero) due none = absurd (no_job m Zero none.0 due)
one_due m (Some One) due none = absurd (no_job m One none.0 due)
one_due m (Some Collect) due none = absurd (none.1 due.1)

pub none_due : (mounted : Option Mounted) (job : Option JobKind) → IsDueIn mounted job → IsDueIn mounted None → job ≡ None
none_due None job due none = due
none_due (Some m) job due none = one_due m job due none
