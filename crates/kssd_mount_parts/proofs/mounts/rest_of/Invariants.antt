use Rattle.std.proofs.Common.{length}
use Rattle.kssd_model.specs.OnlyReading.{OnlyReads}
use Rattle.kssd_mount_parts.proofs.mounts.rest_of.Given as goal

abbrev pub invariant-entries : goal.invariant-entries
invariant-entries g l = record {
  stands : g.S.Ordered.stands l.source (g.N.Nand.flash l.fn.nand).blocks (g.N.Nand.flash l.fn.nand).image;
  reads : OnlyReads (g.N.Nand.flash l.fn.nand) (g.N.Nand.flash l.nand);
}

abbrev pub decreases-entries : goal.decreases-entries
decreases-entries g l = length (g.S.Ordered.rest l.source (g.N.Nand.flash l.fn.nand).image)
