use Rattle.std.proofs.Common.{◌∙◌, ap, subst}
use Rattle.kv_device.specs.Calls.{set_ages}
use Rattle.kfs_tx.specs.Tx.{Aged}
use Rattle.kfs_core.proofs.Ages.{inode_ages}
use Rattle.kfs_core.proofs.making.put_inode.Goals as goal

pub returns-in_err-set-clause-age : goal.returns-in_err-set-clause-age
returns-in_err-set-clause-age g c = subst (Aged c.args.running.now c.set.new.self) (ap set_ages c.in_ok-value.ensures ∙ inode_ages c.args.inode.kind c.args.inode.length) c.set.ensures.age

pub returns-clause-age : goal.returns-clause-age
returns-clause-age g c = subst (Aged c.args.running.now c.set.new.self) (ap set_ages c.in_ok-value.ensures ∙ inode_ages c.args.inode.kind c.args.inode.length) c.set.ensures.age
