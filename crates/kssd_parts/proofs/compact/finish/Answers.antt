use Rattle.std.proofs.Common.{◌≤◌, ap, arith}
use Rattle.kv_nand.proofs.Chaining.{works_blocks, stops_blocks}
use Rattle.kssd_model.specs.declared.runs.RunInfo.{RunInfo}
use Rattle.kssd_run.specs.Run.{run_info}
use Rattle.kssd_parts.proofs.JobsDone.{same_job, same_then, steps_on, still_stand, done_run}
use Rattle.kssd_parts.proofs.compact.finish.Goals as goal

pub loop-init : goal.loop-init
loop-init g c = record { same = same_job c.args.job; job = c.requires.job; levels = c.requires.levels }

pub loop-preserved : goal.loop-preserved
loop-preserved g c =
    let was = g.N.Nand.flash c.loop.nand in
    let now = g.N.Nand.flash c.step.new.nand in
    record {
      same = same_then c.args.job c.loop.job c.step.new.self c.loop.invariant.same c.in-Ok.ensures.same;
      job = steps_on c.loop.job c.step.new.self was.blocks now.blocks was.image now.image c.in-Ok.ensures.job c.loop.invariant.job;
      levels = still_stand c.args.job c.loop.job c.args.levels.now was.blocks now.blocks was.image now.image c.requires.over c.loop.invariant.same c.step.ensures.outside (works_blocks was now 1 now.reads c.in-Ok.ensures.works) c.loop.invariant.levels;
    }

pub returns-then-info-le100-clause-run : goal.returns-then-info-le100-clause-run
returns-then-info-le100-clause-run g c =
    let was = g.N.Nand.flash c.loop.nand in
    let run = c.into_run-run.result in
    let few : (run_info run).entries ≤ 100 = omega (arith, c.if-info-le100.true, ap (λ (info : RunInfo). info.entries) c.info.ensures) in
    done_run c.args.job c.loop.job run c.args.levels.now was.blocks was.image c.requires.over c.loop.invariant.same c.loop.invariant.levels c.requires.fresh c.loop.invariant.job c.into_run-run.ensures few

pub returns-in-Err-clause-levels : goal.returns-in-Err-clause-levels
returns-in-Err-clause-levels g c =
    let was = g.N.Nand.flash c.loop.nand in
    let now = g.N.Nand.flash c.step.new.nand in
    still_stand c.args.job c.loop.job c.args.levels.now was.blocks now.blocks was.image now.image c.requires.over c.loop.invariant.same c.step.ensures.outside (stops_blocks was now c.in-Err.fault 1 now.reads c.in-Err.ensures.err) c.loop.invariant.levels
