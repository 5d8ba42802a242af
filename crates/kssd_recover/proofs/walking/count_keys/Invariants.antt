use Rattle.std.proofs.Common.{length}
use Rattle.kssd_model.specs.OnlyReading.{OnlyReads}
use Rattle.kssd_recover.specs.Walk.{AreCounted}
use Rattle.kssd_recover.proofs.walking.count_keys.Given as goal

abbrev pub invariant-entries : goal.invariant-entries
invariant-entries g l = record {
  counted : AreCounted (g.S.Ordered.rest l.fn.source (g.N.Nand.flash l.fn.nand).image) (g.S.Ordered.rest l.source (g.N.Nand.flash l.fn.nand).image) l.count;
  stands : g.S.Ordered.stands l.source (g.N.Nand.flash l.fn.nand).blocks (g.N.Nand.flash l.fn.nand).image;
  reads : OnlyReads (g.N.Nand.flash l.fn.nand) (g.N.Nand.flash l.nand);
}

abbrev pub decreases-entries : goal.decreases-entries
decreases-entries g l = length (g.S.Ordered.rest l.source (g.N.Nand.flash l.fn.nand).image)
