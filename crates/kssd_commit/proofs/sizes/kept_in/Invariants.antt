use Rattle.std.proofs.Common.{◌≡◌, ◌≤◌, take}
use Rattle.kssd_machine.specs.Sizes.{kept_count}
use Rattle.kssd_commit.proofs.sizes.kept_in.Given as goal

abbrev pub invariant-loop-entry : goal.invariant-loop-entry
invariant-loop-entry l = record {
  count : l.count ≡ kept_count (take l.entry-index l.entries);
  few : l.count ≤ l.entry-index;
}
