use Rattle.std.proofs.Common.{◌∙◌}
use Rattle.kssd_engine.specs.Plans.{asked_by}
use Rattle.kfs_runner.proofs.Asking.{rests_planned}
use Rattle.kfs_runner.proofs.flash.RestingStore.rest.Goals as goal

pub returns-clause-asked : goal.returns-clause-asked
returns-clause-asked g c =
    let same = c.into_device.ensures in
    rests_planned _ _ (c.into_nand.ensures.asked ∙ λ i. record (asked_by (g.N.PlannedNand.planned (same i).nand) 0) { work = 0 })
