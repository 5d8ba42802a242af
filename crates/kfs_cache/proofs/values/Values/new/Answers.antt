use Rattle.std.proofs.Common.{ap}
use Rattle.kfs_cache.proofs.Entries.{shown_none}
use Rattle.kfs_cache.proofs.values.Values.new.Goals as goal

pub returns : goal.returns
returns c = shown_none _ (ap (λ k. k.entries) c.in_ok-new.ensures)
