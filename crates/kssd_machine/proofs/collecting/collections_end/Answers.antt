use Rattle.kssd_machine.proofs.Copying.{few_first, few_after, few_dead, few_copied, all_gone}
use Rattle.kssd_machine.proofs.collecting.collections_end.Goals as goal

pub returns : goal.returns
returns c = record { start = few_first; step = few_after; die = few_dead; copied = few_copied; over = all_gone }
