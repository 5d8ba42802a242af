use Rattle.std.proofs.Common.{◌≡◌, ◌≤◌, ◌+◌, drop}
use Rattle.kssd_image.specs.Stages.{runs_map}
use Rattle.kssd_model.specs.OnlyReading.{OnlyReads}
use Rattle.kssd_model.specs.Rising.{find_entry}
use Rattle.kssd_levels.specs.Runs.{infos_in, StandRuns}
use Rattle.kssd_levels.proofs.runs.RunList.find.Given as goal

abbrev pub invariant-loop-run : goal.invariant-loop-run
invariant-loop-run g l = record {
  reads : OnlyReads (g.N.Nand.flash l.fn.nand) (g.N.Nand.flash l.nand);
  few : (g.N.Nand.flash l.nand).reads ≤ (g.N.Nand.flash l.fn.nand).reads + l.run-index;
  left : find_entry (runs_map (g.N.Nand.flash l.fn.nand).image (infos_in (drop l.run-index l.run-items))) l.key ≡ find_entry (runs_map (g.N.Nand.flash l.fn.nand).image (infos_in l.run-items)) l.key;
  stands : StandRuns (drop l.run-index l.run-items) (g.N.Nand.flash l.fn.nand).blocks (g.N.Nand.flash l.fn.nand).image;
}
