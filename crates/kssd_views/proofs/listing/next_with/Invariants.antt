use Rattle.std.proofs.Common.{◌≡◌, true, length}
use Rattle.std.specs.List.{list_all}
use Rattle.kssd_model.specs.OnlyReading.{OnlyReads}
use Rattle.kssd_image.specs.Whole.{has_its_value}
use Rattle.kssd_levels.specs.Streams.{StandsStream}
use Rattle.kssd_machine.specs.Viewing.{with_prefix}
use Rattle.kssd_views.specs.Listing.{left_in}
use Rattle.kssd_views.proofs.listing.next_with.Given as goal

abbrev pub invariant-entries : goal.invariant-entries
invariant-entries g l = record {
  stands : StandsStream l.shown (g.N.Nand.flash l.fn.nand).blocks (g.N.Nand.flash l.fn.nand).image;
  valued : list_all (has_its_value (g.N.Nand.flash l.fn.nand).blocks (g.N.Nand.flash l.fn.nand).image) (left_in (g.N.Nand.flash l.fn.nand).image l.own l.shown) ≡ true;
  reads : OnlyReads (g.N.Nand.flash l.fn.nand) (g.N.Nand.flash l.nand);
  left : with_prefix l.prefix (left_in (g.N.Nand.flash l.fn.nand).image l.fn.own l.fn.shown) ≡ with_prefix l.prefix (left_in (g.N.Nand.flash l.fn.nand).image l.own l.shown);
}

abbrev pub decreases-entries : goal.decreases-entries
decreases-entries g l = length (left_in (g.N.Nand.flash l.fn.nand).image l.own l.shown)
