use Rattle.std.proofs.Common.{◌-◌, ◌≤◌}
use Rattle.kssd_collect.specs.Copied.{IsCopying}
use Rattle.kssd_collect.proofs.copying.copy_some.Given as goal

abbrev pub invariant-pages : goal.invariant-pages
invariant-pages g l = record {
  few : l.left ≤ l.fn.operations;
  copying : IsCopying l.fn.reclaim l.fn.values (g.N.Nand.flash l.fn.nand) (l.fn.operations - l.left) l.reclaim l.values (g.N.Nand.flash l.nand);
}

abbrev pub decreases-pages : goal.decreases-pages
decreases-pages g l = l.left
