use Rattle.std.proofs.Common.{◌≡◌, ◌++◌, ◌-◌}
use Rattle.kfs_load.specs.Generator.{steps_from}
use Rattle.kfs_load.proofs.load.steps.Given as goal

-- what was added, and the steps that are left
abbrev pub invariant-loop : goal.invariant-loop
invariant-loop l = l.lines.items ++ steps_from l.draws.state (l.count - l.counter) ≡ l.initial.lines.items ++ steps_from l.seed l.count
