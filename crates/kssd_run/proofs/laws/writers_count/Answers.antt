use Rattle.kssd_run.proofs.Staying.{writer_counts}
use Rattle.kssd_run.proofs.laws.writers_count.Goals as goal

pub returns : goal.returns
returns c = writer_counts
