use Rattle.std.proofs.Common.{◌≡◌, drop}
use Rattle.kssd_model.specs.Groups.{key_set}
use Rattle.kssd_log.proofs.scanning.add_keys.Given as goal

abbrev pub invariant-loop-entry : goal.invariant-loop-entry
invariant-loop-entry l = key_set l.keys.keys (drop l.entry-index l.entry-items) ≡ key_set l.initial.keys.keys l.entry-items
