use Rattle.kssd_parts.proofs.JobsDone.{starts}
use Rattle.kssd_parts.proofs.compact.work.Goals as goal

pub finish-requires-clause-job : goal.finish-requires-clause-job
finish-requires-clause-job g c = starts c.args.kind c.args.levels.now _ c.args.number c.in-Ok-start.job _ _ c.in-Ok-start.ensures c.requires
