use Rattle.std.proofs.Common.{◌≡◌}
use Rattle.kv_nand.specs.Working.{Works}
use Rattle.kssd_model.specs.Anchors.{newest_of}
use Rattle.kssd_anchor.proofs.finding.newest.Given as goal

abbrev pub invariant-loop-page : goal.invariant-loop-page
invariant-loop-page g l = record {
  newest : l.newest ≡ newest_of (g.N.Nand.flash l.initial.nand).image l.page;
  same : (g.N.Nand.flash l.nand).image ≡ (g.N.Nand.flash l.initial.nand).image;
  works : Works (g.N.Nand.flash l.initial.nand) (g.N.Nand.flash l.nand) 0 l.page;
}
