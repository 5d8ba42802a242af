use Rattle.std.proofs.Common.{◌∙◌}
use Rattle.kssd_run.proofs.Taking.{first_fits}
use Rattle.kssd_run.proofs.writer.take.Goals as goal

pub returns-in-NoRoom-clause-takes : goal.returns-in-NoRoom-clause-takes
returns-in-NoRoom-clause-takes c = (
  c.in-NoRoom.ensures.offer.0,
  c.swap.ensures.x_after ∙ c.in-NoRoom.ensures.offer.1,
  first_fits c.clear.new.self c.offer-in-NoRoom.new.self c.args.entry.now c.offer-in-NoRoom.result c.clear.ensures c.offer-in-NoRoom.ensures.fits c.offer-in-NoRoom.ensures.offer,
)
