use Rattle.std.proofs.Common.{arith}
use Rattle.kssd_store.proofs.large.set_large.Goals as goal

pub returns-clause-usual : goal.returns-clause-usual
returns-clause-usual g c low = omega (arith, c.make_room.ensures.usual low, c.in_ok-put_value.ensures.works.counts.ops_at_most)
