use Rattle.std.proofs.Common.{◌≡◌, [], take}
use Rattle.kssd_model.specs.Rising.{merged}
use Rattle.kssd_collect.proofs.logging.in_order.Given as goal

abbrev pub invariant-loop-entry : goal.invariant-loop-entry
invariant-loop-entry l = l.table ≡ merged (take l.entry-index l.entry-items) []
