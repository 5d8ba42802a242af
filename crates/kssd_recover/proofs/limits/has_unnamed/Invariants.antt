use Rattle.std.proofs.Common.{◌≡◌, ◌/◌, ◌-◌, not, false}
use Rattle.std.specs.Prelude.{◌==◌}
use Rattle.std.specs.List.{list_any, list_all, range_with_len}
use Rattle.kssd_layout.specs.Numbers.{first_value_block_in}
use Rattle.kssd_recover.proofs.limits.has_unnamed.Given as goal

abbrev pub invariant-loop-block : goal.invariant-loop-block
invariant-loop-block l = list_any (λ block. list_all (λ page. not ((page / 32) == block)) l.pages) (range_with_len (first_value_block_in l.layout.blocks) (l.block - first_value_block_in l.layout.blocks)) ≡ false
