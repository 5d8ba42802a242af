use Rattle.kssd_machine.proofs.Moving.{unnamed, named_after, free_unnamed}
use Rattle.kssd_machine.proofs.collecting.blocks_are_left.Goals as goal

pub returns : goal.returns
returns c = record { unnamed = unnamed; after = named_after; free = free_unnamed }
