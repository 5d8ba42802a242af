use Rattle.kssd_model.proofs.RisingEntries.{find-merged, is_rising-merged}
use Rattle.kssd_merge.proofs.laws.newest_wins.Goals as goal

pub returns : goal.returns
returns c newer older n o = (λ key. find-merged newer older key n, is_rising-merged newer older o)
