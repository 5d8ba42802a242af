use Rattle.std.proofs.Common.{◌≡◌, ◌≢◌, ◌≤◌, ◌⊎◌, true}
use Rattle.kssd_values.specs.Blocks.{copied, free_count, has_target, IsClosed}
use Rattle.kssd_values.specs.Pages.{StandsIn}
use Rattle.kssd_reclaim.specs.Reclaim.{block_of}
use Rattle.kssd_parts.proofs.reclaim.copy_all.Given as goal

abbrev pub invariant-loop-count : goal.invariant-loop-count
invariant-loop-count g l = record {
  stands : StandsIn l.values (g.N.Nand.flash l.nand);
  closed : IsClosed l.values (block_of l.reclaim);
  few : copied l.values ≤ l._count;
  block : (free_count l.values ≢ 0) ⊎ (has_target l.values ≡ true);
}
