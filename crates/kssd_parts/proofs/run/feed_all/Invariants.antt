use Rattle.std.proofs.Common.{◌≡◌, false, take}
use Rattle.kssd_run.specs.Writing.{Writes, is_closed, run_blocks}
use Rattle.kssd_parts.proofs.run.feed_all.Given as goal

abbrev pub invariant-loop-entry : goal.invariant-loop-entry
invariant-loop-entry g l = record {
  device : (g.N.Nand.flash l.nand).blocks ≡ 256;
  blocks : run_blocks l.writer ≡ run_blocks l.initial.writer;
  writes : Writes l.writer (g.N.Nand.flash l.nand).image (take l.entry-index l.entries);
  closed : is_closed l.writer ≡ false;
}
