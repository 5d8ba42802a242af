use Rattle.std.proofs.Common.{◌≡◌}
use Rattle.nand_mem.specs.MemNand.{mem}
use Rattle.kssd_anchor.specs.Places.{IsLast}
use Rattle.kssd_parts.proofs.anchor.write_up_to.Given as goal

abbrev pub invariant-loop-before : goal.invariant-loop-before
invariant-loop-before l = record {
  blocks : (mem l.nand).flash.blocks ≡ 256;
  last : IsLast (mem l.nand).flash.image l.page l.before;
}
