use Rattle.std.proofs.Common.{◌≡◌, ◌≤◌, ◌-◌, length}
use Rattle.std.specs.List.{range_with_len}
use Rattle.kssd_levels.specs.Levels.{named_blocks}
use Rattle.kssd_levels.proofs.Free.{free_in}
use Rattle.kssd_levels.proofs.levels.Levels.free_blocks.Given as goal

abbrev pub invariant-loop-block : goal.invariant-loop-block
invariant-loop-block l = record {
  found : l.blocks ≡ free_in (named_blocks l.self) (range_with_len 20 (l.block - 20));
  few : length l.blocks ≤ l.count;
}
