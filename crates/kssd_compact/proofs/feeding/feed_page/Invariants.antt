use Rattle.std.proofs.Common.{◌≡◌, length}
use Rattle.kssd_model.specs.OnlyReading.{OnlyReads}
use Rattle.kssd_compact.proofs.TakenOn.{HasFed}
use Rattle.kssd_compact.proofs.feeding.feed_page.Given as goal

abbrev pub invariant-entries : goal.invariant-entries
invariant-entries g l = record {
  stands : g.S.Ordered.stands l.source (g.N.Nand.flash l.fn.nand).blocks (g.N.Nand.flash l.fn.nand).image;
  reads : OnlyReads (g.N.Nand.flash l.fn.nand) (g.N.Nand.flash l.nand);
  houses : g.S.Ordered.houses l.source ≡ g.S.Ordered.houses l.fn.source;
  fed : HasFed l.kind (g.S.Ordered.rest l.fn.source (g.N.Nand.flash l.fn.nand).image) l.fn.writer (g.S.Ordered.rest l.source (g.N.Nand.flash l.fn.nand).image) l.writer;
}

abbrev pub decreases-entries : goal.decreases-entries
decreases-entries g l = length (g.S.Ordered.rest l.source (g.N.Nand.flash l.fn.nand).image)
