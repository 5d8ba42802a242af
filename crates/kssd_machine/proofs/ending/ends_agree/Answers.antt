use Rattle.kssd_machine.proofs.Seeing.{view_is}
use Rattle.kssd_machine.proofs.Finishing.{full, has_room_by, group_room, ends, idle}
use Rattle.kssd_machine.proofs.ending.ends_agree.Goals as goal

pub returns : goal.returns
returns c = record { seen = view_is; full = full; room = has_room_by; group = group_room; done = ends; idle = idle }
