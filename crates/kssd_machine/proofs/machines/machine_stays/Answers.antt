use Rattle.kssd_machine.proofs.Standing.{stays, pending_same, works_same, reading_stays, downs, mounted, sound}
use Rattle.kssd_machine.proofs.machines.machine_stays.Goals as goal

pub returns : goal.returns
returns c = record { stays = stays; pending = pending_same; works = works_same; reading = reading_stays; downs = downs; mounted = mounted; sound = sound }
