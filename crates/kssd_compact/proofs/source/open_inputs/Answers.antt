use Rattle.std.proofs.Common.{◌∙◌, ap}
use Rattle.std.proofs.lemmas.Result.{IfOk-weaker}
use Rattle.kssd_model.specs.Rising.{merged}
use Rattle.kssd_levels.proofs.FromKey.{over_all}
use Rattle.kssd_compact.proofs.source.open_inputs.Goals as goal

pub returns-clause-rest : goal.returns-clause-rest
returns-clause-rest g c =
    IfOk-weaker c.open.result _ _ (λ stream rest. rest ∙ ap (merged c.args.inputs.entries) (over_all c.args.inputs.runs (g.N.Nand.flash c.args.nand.now).image)) c.open.ensures.rest
