use Rattle.std.proofs.Common.{ap, ◌∙◌, subst}
use Rattle.kv_device.specs.Calls.{set_ages}
use Rattle.kfs_tx.specs.Tx.{Aged}
use Rattle.kfs_dir.proofs.Naming.{entry_ages}
use Rattle.kfs_dir.proofs.changing.add.Goals as goal

pub returns-clause-age : goal.returns-clause-age
returns-clause-age g c = subst (Aged c.args.running.now c.set.new.self) (ap set_ages c.in_ok-value.ensures ∙ entry_ages _) c.set.ensures.age
