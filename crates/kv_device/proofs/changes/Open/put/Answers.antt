use Rattle.std.proofs.Common.{sym, subst}
use Rattle.kv_device.specs.Objects.{IsHeldKey}
use Rattle.kv_device.proofs.HeldLaws.{held-inserted}
use Rattle.kv_device.proofs.changes.Open.put.Goals as goal

pub invariant_of-self-2-clause-held : goal.invariant_of-self-2-clause-held
invariant_of-self-2-clause-held c =
    held-inserted c.insert.result c.args.self.now.changes c.insert.new.self _ _ c.insert.ensures.ok c.insert.ensures.err c.args.self.now.held
    (subst IsHeldKey (sym c.in_ok-copy.ensures) c.key_is_held.ensures) c.in_ok-change.ensures.held
