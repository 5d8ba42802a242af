use Rattle.std.proofs.Common.{◌≡◌, take}
use Rattle.kssd_model.specs.Rising.{merged}
use Rattle.kssd_recover.proofs.log.put_all.Given as goal

abbrev pub invariant-loop-entry : goal.invariant-loop-entry
invariant-loop-entry l = l.table ≡ merged (take l.entry-index l.entries) l.initial.table
