use Rattle.kssd_compact.specs.Job.{CanStepJob}
use Rattle.kssd_compact.proofs.Later.{IsLater, steps_left}
use Rattle.kssd_compact.proofs.job.Job.finish.Given as goal

abbrev pub invariant-steps : goal.invariant-steps
invariant-steps g l = record {
  later : IsLater l.fn.self (g.N.Nand.flash l.initial.nand) l.job (g.N.Nand.flash l.nand);
  can : CanStepJob l.job (g.N.Nand.flash l.nand).blocks (g.N.Nand.flash l.nand).image;
}

abbrev pub decreases-steps : goal.decreases-steps
decreases-steps g l = steps_left l.job
