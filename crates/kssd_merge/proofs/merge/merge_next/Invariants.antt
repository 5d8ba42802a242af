use Rattle.std.proofs.Common.{◌≡◌, length}
use Rattle.kssd_model.specs.OnlyReading.{OnlyReads}
use Rattle.kssd_model.specs.Rising.{merged}
use Rattle.kssd_merge.specs.Merge.{counting}
use Rattle.kssd_merge.proofs.merge.merge_next.Given as goal

abbrev pub invariant-marks : goal.invariant-marks
invariant-marks g l = record {
  newer_stands : g.A.Ordered.stands l.newer (g.N.Nand.flash l.fn.nand).blocks (g.N.Nand.flash l.fn.nand).image;
  older_stands : g.B.Ordered.stands l.older (g.N.Nand.flash l.fn.nand).blocks (g.N.Nand.flash l.fn.nand).image;
  newer_housed : g.A.Ordered.houses l.newer ≡ g.A.Ordered.houses l.fn.newer;
  older_housed : g.B.Ordered.houses l.older ≡ g.B.Ordered.houses l.fn.older;
  reads : OnlyReads (g.N.Nand.flash l.fn.nand) (g.N.Nand.flash l.nand);
  left : counting l.drop_gone (merged (g.A.Ordered.rest l.fn.newer (g.N.Nand.flash l.fn.nand).image) (g.B.Ordered.rest l.fn.older (g.N.Nand.flash l.fn.nand).image)) ≡ counting l.drop_gone (merged (g.A.Ordered.rest l.newer (g.N.Nand.flash l.fn.nand).image) (g.B.Ordered.rest l.older (g.N.Nand.flash l.fn.nand).image));
}

abbrev pub decreases-marks : goal.decreases-marks
decreases-marks g l = length (merged (g.A.Ordered.rest l.newer (g.N.Nand.flash l.fn.nand).image) (g.B.Ordered.rest l.older (g.N.Nand.flash l.fn.nand).image))
