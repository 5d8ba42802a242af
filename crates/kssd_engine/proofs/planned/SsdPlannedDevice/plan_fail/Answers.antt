use Rattle.std.proofs.Common.{◌∙◌, ap}
use Rattle.kv_nand.specs.Planned.{with_fault}
use Rattle.kssd_engine.proofs.Numbering.{fault_asked}
use Rattle.kssd_engine.proofs.planned.SsdPlannedDevice.plan_fail.Goals as goal

pub returns-clause-asked : goal.returns-clause-asked
returns-clause-asked g c =
    let planned = g.N.PlannedNand.planned c.args.self.now.nand in
    fault_asked planned (g.N.PlannedNand.planned c.plan_fail.new.self) c.args.self.now.operations c.args.kind c.args.n c.requires.kind (c.plan_fail.ensures.planned ∙ ap (λ kind. with_fault planned kind c.args.n) c.operation_of.ensures)
