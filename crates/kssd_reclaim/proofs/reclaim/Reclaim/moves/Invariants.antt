use Rattle.std.proofs.Common.{◌≡◌, take}
use Rattle.kssd_reclaim.proofs.Collecting.{moves_in}
use Rattle.kssd_reclaim.proofs.reclaim.Reclaim.moves.Given as goal

abbrev pub invariant-loop-copy : goal.invariant-loop-copy
invariant-loop-copy l = l.moves ≡ moves_in l.values (take l.copy-index l.copy-items)
