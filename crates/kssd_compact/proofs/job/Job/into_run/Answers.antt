use Rattle.kssd_compact.proofs.Jobs.{made, done_ended, done_waits}
use Rattle.kssd_compact.proofs.job.Job.into_run.Goals as goal

pub into_run-requires-clause-waits : goal.into_run-requires-clause-waits
into_run-requires-clause-waits c = done_waits c.args.self.ended _ c.requires

pub into_run-requires-clause-filling : goal.into_run-requires-clause-filling
into_run-requires-clause-filling c = c.args.self.shut (done_ended c.args.self.ended _ c.requires)

pub returns : goal.returns
returns c = made c.args.self c.into_run.result (done_ended c.args.self.ended _ c.requires) c.into_run.ensures
