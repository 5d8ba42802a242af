use Rattle.std.proofs.Common.{◌≡◌, take, false}
use Rattle.kssd_levels.specs.Runs.{blocks_in, has_block}
use Rattle.kssd_levels.proofs.runs.RunList.names.Given as goal

abbrev pub invariant-loop-run : goal.invariant-loop-run
invariant-loop-run l = has_block (blocks_in (take l.run-index l.run-items)) l.block ≡ false
