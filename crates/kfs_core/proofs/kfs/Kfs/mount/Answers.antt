use Rattle.std.proofs.Common.{subst, sym}
use Rattle.kv_base.specs.declared.damage.Damage.{Damage}
use Rattle.kfs_judge.specs.declared.fault.JudgeFault.{JudgeFault}
use Rattle.kfs_judge.specs.Judging.{JudgeFails}
use Rattle.kfs_core.specs.declared.fault.HostFault.TheVariants.{Damaged}
use Rattle.kfs_core.specs.Starting.{NotMounted}
use Rattle.kfs_core.proofs.Refused.{refused}
use Rattle.kfs_core.proofs.kfs.Kfs.mount.Goals as goal

pub returns-in-Err-Damaged-clause-err : goal.returns-in-Err-Damaged-clause-err
returns-in-Err-Damaged-clause-err g c =
    let old = g.D.Device.machine c.args.device in
    let new = g.D.Device.machine c.judge.new.device in
    subst (λ (d : Damage). NotMounted old (Damaged d) new) (sym c.in-Err-Damaged.damage-is)
    (refused old new c.in-Err-Damaged.damage (subst (λ (f : JudgeFault). JudgeFails old f new) c.in-Err-Damaged.field-0-is c.in-Err-Damaged.ensures.err))
