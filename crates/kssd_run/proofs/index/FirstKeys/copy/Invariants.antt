use Rattle.std.proofs.Common.{◌≡◌, take}
use Rattle.kssd_run.proofs.index.FirstKeys.copy.Given as goal

abbrev pub invariant-loop-key : goal.invariant-loop-key
invariant-loop-key l = l.copy ≡ take l.key-index l.key-items
