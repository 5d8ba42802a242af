use Rattle.kssd_levels.proofs.Spare.{job_blocks_suffice}
use Rattle.kssd_levels.proofs.laws.job_blocks_suffice.Goals as goal

pub returns : goal.returns
returns c = job_blocks_suffice
