use Rattle.std.proofs.Common.{◌≡◌, take}
use Rattle.kssd_model.proofs.runs.RunInfos.copy.Given as goal

abbrev pub invariant-loop-info : goal.invariant-loop-info
invariant-loop-info l = l.infos ≡ take l.info-index l.info-items
