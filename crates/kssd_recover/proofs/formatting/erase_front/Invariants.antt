use Rattle.std.proofs.Common.{◌≡◌, ◌*◌}
use Rattle.kv_nand.specs.Working.{Works, ops_more}
use Rattle.kssd_recover.specs.Formatting.{IsErasedBelow}
use Rattle.kssd_recover.proofs.formatting.erase_front.Given as goal

abbrev pub invariant-loop-block : goal.invariant-loop-block
invariant-loop-block g l = record {
  erased : IsErasedBelow (32 * l.block) (g.N.Nand.flash l.initial.nand).image (g.N.Nand.flash l.nand).image;
  works : Works (g.N.Nand.flash l.initial.nand) (g.N.Nand.flash l.nand) l.block 0;
  exact : (g.N.Nand.flash l.nand).ops ≡ ops_more (g.N.Nand.flash l.initial.nand) l.block;
}
