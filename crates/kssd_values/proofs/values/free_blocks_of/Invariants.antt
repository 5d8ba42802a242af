use Rattle.std.proofs.Common.{◌≡◌, ◌<◌, ℕ, length, get_or, false}
use Rattle.std.specs.Prelude.{nat_le}
use Rattle.kssd_values.proofs.values.free_blocks_of.Given as goal

abbrev pub invariant-loop-block : goal.invariant-loop-block
invariant-loop-block l = record {
  count : length l.free.items ≡ l.block;
  free : (k : ℕ) → k < l.block → get_or l.free.items k false ≡ nat_le l.first k;
}
