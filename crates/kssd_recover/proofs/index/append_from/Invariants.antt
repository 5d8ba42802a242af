use Rattle.std.proofs.Common.{◌≡◌, ◌++◌, take, filter}
use Rattle.std.specs.Prelude.{nat_le}
use Rattle.kssd_run.specs.Run.{run_info}
use Rattle.kssd_recover.proofs.index.append_from.Given as goal

abbrev pub invariant-loop-run : goal.invariant-loop-run
invariant-loop-run l = l.all ≡ l.initial.all ++ filter (λ run. nat_le l.least (run_info run).level) (take l.run-index l.runs)
