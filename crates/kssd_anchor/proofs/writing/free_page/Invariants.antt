use Rattle.std.proofs.Common.{◌≡◌, ◌*◌, ◌-◌}
use Rattle.kv_nand.specs.Working.{Works}
use Rattle.kssd_anchor.specs.Places.{IsFreeSoFar}
use Rattle.kssd_anchor.proofs.writing.free_page.Given as goal

abbrev pub invariant-loop-page : goal.invariant-loop-page
invariant-loop-page g l = record {
  free : IsFreeSoFar (g.N.Nand.flash l.initial.nand).image (32 * l.block) l.page l.free;
  same : (g.N.Nand.flash l.nand).image ≡ (g.N.Nand.flash l.initial.nand).image;
  works : Works (g.N.Nand.flash l.initial.nand) (g.N.Nand.flash l.nand) 0 (l.page - 32 * l.block);
}
