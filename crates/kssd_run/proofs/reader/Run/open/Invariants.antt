use Rattle.std.proofs.Common.{◌+◌, ◌≤◌}
use Rattle.kssd_model.specs.OnlyReading.{OnlyReads}
use Rattle.kssd_run.specs.Read.{IsReading}
use Rattle.kssd_run.proofs.reader.Run.open.Given as goal

abbrev pub invariant-loop-index : goal.invariant-loop-index
invariant-loop-index g l = record {
  read : IsReading l.fn.info (g.N.Nand.flash l.fn.nand).image l.index l.reading;
  reads : OnlyReads (g.N.Nand.flash l.fn.nand) (g.N.Nand.flash l.nand);
  few : (g.N.Nand.flash l.nand).reads ≤ (g.N.Nand.flash l.fn.nand).reads + l.index;
}
