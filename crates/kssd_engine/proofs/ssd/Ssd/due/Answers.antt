use Rattle.std.proofs.Common.{Option, None, Some, subst}
use Rattle.kssd_mounted.specs.declared.mounted.Mounted.{Mounted}
use Rattle.kssd_engine.specs.Keeping.{IsDueIn}
use Rattle.kssd_engine.proofs.Due.{none_due}
use Rattle.kssd_engine.proofs.ssd.Ssd.due.Goals as goal

pub returns-in-Some-clause-none : goal.returns-in-Some-clause-none
returns-in-Some-clause-none g c none = none_due (Some c.in-Some.mounted) c.due.result c.due.ensures (subst (λ (o : Option Mounted). IsDueIn o None) c.in-Some.is none)
