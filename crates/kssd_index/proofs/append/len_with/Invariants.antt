use Rattle.std.proofs.Common.{◌≡◌, ◌≤◌, ◌+◌, length, take}
use Rattle.kssd_model.specs.Rising.{merged}
use Rattle.kssd_index.proofs.append.len_with.Given as goal

abbrev pub invariant-loop-entry : goal.invariant-loop-entry
invariant-loop-entry l = record {
  count : l.len ≡ length (merged (take l.entry-index l.entry-items) l.known);
  few : l.len ≤ 2048 + l.entry-index;
}
