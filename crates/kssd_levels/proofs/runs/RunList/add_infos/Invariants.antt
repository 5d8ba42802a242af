use Rattle.std.proofs.Common.{◌≡◌, ◌++◌, take}
use Rattle.kssd_levels.specs.Runs.{infos_in}
use Rattle.kssd_levels.proofs.runs.RunList.add_infos.Given as goal

abbrev pub invariant-loop-run : goal.invariant-loop-run
invariant-loop-run l = l.infos ≡ l.fn.infos ++ infos_in (take l.run-index l.run-items)
