use Rattle.std.proofs.Common.{◌≤◌, ◌+◌, take}
use Rattle.std.specs.List.{All}
use Rattle.kssd_model.specs.OnlyReading.{OnlyReads}
use Rattle.kssd_model.specs.RunPages.{IsGoodRun}
use Rattle.kssd_levels.specs.Runs.{StandRuns}
use Rattle.kssd_levels.specs.Levels.{pages_in}
use Rattle.kssd_levels.proofs.Sorting.{AreSorted}
use Rattle.kssd_levels.proofs.levels.Levels.open.Given as goal

abbrev pub invariant-loop-info : goal.invariant-loop-info
invariant-loop-info g l = record {
  reads : OnlyReads (g.N.Nand.flash l.fn.nand) (g.N.Nand.flash l.nand);
  few : (g.N.Nand.flash l.nand).reads ≤ (g.N.Nand.flash l.fn.nand).reads + pages_in (take l.info-index l.info-items);
  sorted : AreSorted (take l.info-index l.info-items) l.opened;
  good : All (IsGoodRun (g.N.Nand.flash l.fn.nand).image) (take l.info-index l.info-items);
  zero_stands : StandRuns l.opened.zero (g.N.Nand.flash l.fn.nand).blocks (g.N.Nand.flash l.fn.nand).image;
  one_stands : StandRuns l.opened.one (g.N.Nand.flash l.fn.nand).blocks (g.N.Nand.flash l.fn.nand).image;
  base_stands : StandRuns l.opened.base (g.N.Nand.flash l.fn.nand).blocks (g.N.Nand.flash l.fn.nand).image;
}
