use Rattle.kssd_levels.proofs.Reading.{loaded_page}
use Rattle.std.proofs.Common.{◌<◌, arith, ap}
use Rattle.kssd_model.specs.declared.runs.RunInfo.{RunInfo}
use Rattle.kssd_run.specs.Run.{run_info}
use Rattle.kssd_levels.proofs.reader.RunReader.load.Goals as goal

pub returns-in_ok-self-clause-rest : goal.returns-in_ok-self-clause-rest
returns-in_ok-self-clause-rest g c =
    let run = c.in-Some.run' in
    let within : c.args.self.now.next < (run_info run).pages = omega (arith, c.if-self-info.true, ap (λ (info : RunInfo). info.pages) c.info.ensures) in
    loaded_page (g.N.Nand.flash c.args.nand.now).image c.args.self.now.run run c.args.self.now.next c.in_ok-self.field-0 c.in-Some.is within c.in_ok-self.ensures.value
