use Rattle.std.proofs.Common.{◌≡◌, ◌≤◌, length, take}
use Rattle.kssd_image.specs.Whole.{pages_named}
use Rattle.kssd_commit.proofs.sizes.pages_in.Given as goal

abbrev pub invariant-loop-entry : goal.invariant-loop-entry
invariant-loop-entry l = record {
  count : l.count ≡ length (pages_named (take l.entry-index l.entries));
  few : l.count ≤ l.entry-index;
}
