use Rattle.std.proofs.Common.{◌≤◌, ◌+◌}
use Rattle.kssd_rows.specs.Standing.{MayCall}
use Rattle.kssd_rows.proofs.row.answered.Given as goal

abbrev pub invariant-loop-line : goal.invariant-loop-line
invariant-loop-line l = record {
  stands : MayCall l.bench l.calls;
  least : l.done ≤ l.calls;
  most : l.calls ≤ l.done + 30000;
}
