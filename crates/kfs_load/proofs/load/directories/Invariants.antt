use Rattle.std.proofs.Common.{◌≡◌, ◌++◌, ◌-◌}
use Rattle.kfs_load.specs.Generator.{dirs_from}
use Rattle.kfs_load.proofs.load.directories.Given as goal

-- what was added, and the directories that are left
abbrev pub invariant-loop-a : goal.invariant-loop-a
invariant-loop-a l = l.lines.items ++ dirs_from l.a (10 - l.a) ≡ l.initial.lines.items ++ dirs_from 0 10
