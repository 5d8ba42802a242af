use Rattle.std.proofs.Common.{◌∙◌, sym}
use Rattle.kssd_work.proofs.Rounds.{index_due}
use Rattle.kssd_work.proofs.choosing.due.Goals as goal

pub returns-in-Some : goal.returns-in-Some
returns-in-Some c = index_due c.args.mounted.now c.in-Some.kind (sym c.due.ensures ∙ c.in-Some.is)
