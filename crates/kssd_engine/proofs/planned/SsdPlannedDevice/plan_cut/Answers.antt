use Rattle.std.proofs.Common.{◌∙◌, ap}
use Rattle.kv_nand.specs.Planned.{with_cut}
use Rattle.kssd_engine.proofs.Numbering.{cut_asked}
use Rattle.kssd_engine.proofs.planned.SsdPlannedDevice.plan_cut.Goals as goal

pub returns-clause-asked : goal.returns-clause-asked
returns-clause-asked g c =
    let planned = g.N.PlannedNand.planned c.args.self.now.nand in
    cut_asked planned (g.N.PlannedNand.planned c.plan_cut.new.self) c.args.self.now.operations c.args.n c.args.how c.requires.how (c.plan_cut.ensures.planned ∙ ap (λ outcome. with_cut planned c.args.n outcome) c.outcome_of.ensures)
