use Rattle.std.proofs.Common.{◌≡◌, ◌+◌, ◌-◌, ◌≤◌, None}
use Rattle.kssd_index.specs.Standing.{index_age}
use Rattle.kssd_index.specs.Working.{WorksOn, due_in, jobs_ahead, work_ahead}
use Rattle.kssd_index.proofs.index.Index.work.Given as goal

abbrev pub invariant-jobs : goal.invariant-jobs
invariant-jobs g l = record {
  on : WorksOn l.fn.operations l.left (g.N.Nand.flash l.initial.nand) l.self (g.N.Nand.flash l.nand);
  ages : index_age l.self + jobs_ahead l.self ≤ index_age l.initial.self + jobs_ahead l.initial.self;
  spent : (l.fn.operations - l.left) + work_ahead l.self (g.N.Nand.flash l.initial.nand).blocks ≤ work_ahead l.initial.self (g.N.Nand.flash l.initial.nand).blocks;
  idle : due_in l.initial.self ≡ None → (l.self ≡ l.initial.self) × (g.N.Nand.flash l.nand ≡ g.N.Nand.flash l.initial.nand) × (l.left ≡ l.fn.operations);
}

abbrev pub decreases-jobs : goal.decreases-jobs
decreases-jobs g l = jobs_ahead l.self
