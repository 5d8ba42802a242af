use Rattle.std.proofs.Common.{◌+◌, ◌-◌, ◌≤◌}
use Rattle.kssd_compact.specs.Job.{CanStepJob, steps_done}
use Rattle.kssd_compact.specs.Finishing.{GoesOn}
use Rattle.kssd_compact.proofs.Later.{IsWithin, steps_left}
use Rattle.kssd_compact.proofs.job.Job.go_on.Given as goal

abbrev pub invariant-steps : goal.invariant-steps
invariant-steps g l = record {
  goes : GoesOn l.initial.self (g.N.Nand.flash l.initial.nand) l.self (g.N.Nand.flash l.nand);
  can : CanStepJob l.self (g.N.Nand.flash l.nand).blocks (g.N.Nand.flash l.nand).image;
  spent : (l.fn.operations - l.left) + steps_done l.initial.self ≤ steps_done l.self;
  within : IsWithin l.fn.operations l.left (g.N.Nand.flash l.initial.nand) (g.N.Nand.flash l.nand);
}

abbrev pub decreases-steps : goal.decreases-steps
decreases-steps g l = steps_left l.self
