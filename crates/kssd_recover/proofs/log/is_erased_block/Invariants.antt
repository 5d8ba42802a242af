use Rattle.std.proofs.Common.{◌≡◌, ◌*◌, ◌<◌, ◌≤◌, ℕ, true}
use Rattle.kv_nand.specs.Flash.{Erased}
use Rattle.kssd_model.specs.OnlyReading.{OnlyReads}
use Rattle.kssd_recover.proofs.log.is_erased_block.Given as goal

abbrev pub invariant-loop-page : goal.invariant-loop-page
invariant-loop-page g l = record {
  erased : (q : ℕ) → 32 * l.block ≤ q → q < l.page → (g.N.Nand.flash l.initial.nand).image q ≡ Erased;
  reads : OnlyReads (g.N.Nand.flash l.initial.nand) (g.N.Nand.flash l.nand);
  powered : 32 * l.block < l.page → (g.N.Nand.flash l.initial.nand).powered ≡ true;
}
