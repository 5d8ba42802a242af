use Rattle.std.proofs.Common.{◌≡◌, take}
use Rattle.kssd_model.specs.OnlyReading.{OnlyReads}
use Rattle.kssd_image.specs.Stages.{shown_in}
use Rattle.kssd_machine.specs.Sizes.{replaced}
use Rattle.kssd_commit.proofs.replacing.replaced_by.Given as goal

abbrev pub invariant-loop-entry : goal.invariant-loop-entry
invariant-loop-entry g l = record {
  found : l.found ≡ replaced (shown_in (g.N.Nand.flash l.fn.nand).image) (take l.entry-index l.entries);
  reads : OnlyReads (g.N.Nand.flash l.fn.nand) (g.N.Nand.flash l.nand);
}
