use Rattle.std.proofs.Common.{refl}
use Rattle.kssd_parts.proofs.JobsDone.{empty_form}
use Rattle.kssd_parts.proofs.compact.fresh.Goals as goal

pub open-requires-clause-form : goal.open-requires-clause-form
open-requires-clause-form g c = empty_form c.in_ok-layout.layout.blocks _ refl refl c.new.ensures
