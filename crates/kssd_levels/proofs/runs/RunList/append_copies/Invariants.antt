use Rattle.std.proofs.Common.{◌≡◌, ◌++◌, take}
use Rattle.kssd_levels.proofs.runs.RunList.append_copies.Given as goal

abbrev pub invariant-loop-run : goal.invariant-loop-run
invariant-loop-run l = l.self ≡ l.fn.self ++ take l.run-index l.runs
