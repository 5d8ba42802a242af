use Rattle.kssd_run.proofs.PageSizes.{has_entries}
use Rattle.kssd_run.proofs.page.entries_in.Goals as goal

pub returns-then-read-index-clause-some : goal.returns-then-read-index-clause-some
returns-then-read-index-clause-some c = has_entries _ _ c.in-Ok.ensures.spelled.1
