use Rattle.kssd_levels.specs.Levels.{StandLevels}
use Rattle.kssd_compact.specs.Job.{IsSameJob, CanStepJob}
use Rattle.kssd_parts.proofs.compact.finish.Given as goal

abbrev pub invariant-loop : goal.invariant-loop
invariant-loop g l = record {
  same : IsSameJob l.fn.job l.job;
  job : CanStepJob l.job (g.N.Nand.flash l.nand).blocks (g.N.Nand.flash l.nand).image;
  levels : StandLevels l.levels (g.N.Nand.flash l.nand).blocks (g.N.Nand.flash l.nand).image;
}
