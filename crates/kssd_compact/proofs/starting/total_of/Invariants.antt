use Rattle.std.proofs.Common.{◌≡◌, ◌+◌, length, take}
use Rattle.kssd_levels.specs.Laws.{entries_in}
use Rattle.kssd_compact.proofs.starting.total_of.Given as goal

abbrev pub invariant-loop-run : goal.invariant-loop-run
invariant-loop-run l = l.total ≡ length l.inputs.entries + entries_in (take l.run-index l.run-items)
