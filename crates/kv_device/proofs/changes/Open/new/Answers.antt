use Rattle.kv_device.proofs.HeldLaws.{no_changes_held}
use Rattle.kv_device.proofs.changes.Open.new.Goals as goal

pub invariant_of-result-clause-held : goal.invariant_of-result-clause-held
invariant_of-result-clause-held c = no_changes_held c.new.result c.new.ensures
