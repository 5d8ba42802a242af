use Rattle.std.proofs.Common.{◌≡◌, ◌≤◌, ◌-◌, ◌++◌, true, length, map}
use Rattle.std.specs.List.{list_all}
use Rattle.kv_device.specs.Objects.{pair_of}
use Rattle.kssd_model.specs.OnlyReading.{OnlyReads}
use Rattle.kssd_image.specs.Whole.{has_its_value}
use Rattle.kssd_levels.specs.Streams.{StandsStream}
use Rattle.kssd_views.specs.Listing.{left_in, pairs_left}
use Rattle.kssd_views.proofs.listing.first_pairs.Given as goal

abbrev pub invariant-pairs : goal.invariant-pairs
invariant-pairs g l = record {
  stands : StandsStream l.shown (g.N.Nand.flash l.fn.nand).blocks (g.N.Nand.flash l.fn.nand).image;
  valued : list_all (has_its_value (g.N.Nand.flash l.fn.nand).blocks (g.N.Nand.flash l.fn.nand).image) (left_in (g.N.Nand.flash l.fn.nand).image l.own l.shown) ≡ true;
  reads : OnlyReads (g.N.Nand.flash l.fn.nand) (g.N.Nand.flash l.nand);
  few : length l.found ≤ l.at_most;
  left : pairs_left (g.N.Nand.flash l.fn.nand).image l.prefix (left_in (g.N.Nand.flash l.fn.nand).image l.fn.own l.fn.shown) ≡ map pair_of l.found ++ pairs_left (g.N.Nand.flash l.fn.nand).image l.prefix (left_in (g.N.Nand.flash l.fn.nand).image l.own l.shown);
}

abbrev pub decreases-pairs : goal.decreases-pairs
decreases-pairs g l = l.at_most - length l.found
