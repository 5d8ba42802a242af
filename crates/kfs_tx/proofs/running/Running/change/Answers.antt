use Rattle.std.proofs.Common.{◌+◌, ◌^◌, ◌∙◌, ap, refl, subst, sym}
use Rattle.kv_device.specs.Calls.{set_ages, Ages}
use Rattle.kfs_tx.specs.Tx.{RunningState, Aged}
use Rattle.kfs_tx.proofs.Causes.{super_ages, change_ages, failed_ages}
use Rattle.kfs_tx.proofs.running.Running.change.Goals as goal

pub returns-in_err-renew-clause-age : goal.returns-in_err-renew-clause-age
returns-in_err-renew-clause-age g c =
    failed_ages c.args.self.now c.set.new.self c.renew.new.self
    (subst (Aged c.args.self.now c.set.new.self) (ap set_ages c.in_ok-value.ensures ∙ super_ages _ _) c.set.ensures.age)
    c.renew.ensures.age

pub returns-then-is_full-clause-age : goal.returns-then-is_full-clause-age
returns-then-is_full-clause-age g c =
    change_ages c.args.self.now c.set.new.self _ c.args.next
    (subst (Aged c.args.self.now c.set.new.self) (ap set_ages c.in_ok-value.ensures ∙ super_ages _ _) c.set.ensures.age)
    (subst (λ (s : RunningState). Ages c.set.new.self.device_age s.device_age (2 ^ 16)) (sym c.self-then-is_full.view_is) c.renew.ensures.age.device)
    (ap (λ (s : RunningState). s.tx.changes + 1) c.self.view_is)
    refl c.requires.next.0 c.requires.next.1
