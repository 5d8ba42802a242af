use Rattle.kssd_machine.proofs.Spacing.{live_most, within_limit, no_victim, room_collected, room_cleared}
use Rattle.kssd_machine.proofs.marked.space_is_enough.Goals as goal

pub returns : goal.returns
returns c = record { most = live_most; limit = within_limit; victim = no_victim; collected = room_collected; cleared = room_cleared }
