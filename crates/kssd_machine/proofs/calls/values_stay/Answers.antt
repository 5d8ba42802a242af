use Rattle.kssd_machine.proofs.Valuing.{holds, valued_begun, valued_with, valued_closed, valued_repointed, rising_repointed}
use Rattle.kssd_machine.proofs.calls.values_stay.Goals as goal

pub returns : goal.returns
returns c = record { holds = holds; begin = valued_begun; change = valued_with; close = valued_closed; repoint = valued_repointed; rising = rising_repointed }
