use Rattle.std.proofs.Common.{arith}
use Rattle.kssd_views.proofs.Pairing.{own_all}
use Rattle.kssd_views.proofs.listing.own_from.Goals as goal

pub returns-in-Ok-clause-value : goal.returns-in-Ok-clause-value
returns-in-Ok-clause-value c = own_all c.args.changes.now c.args.tx.0 640 c.args.from.now c.in-Ok.own (omega arith) c.in-Ok.ensures.changes c.in-Ok.ensures.value
