use Rattle.std.proofs.Common.{◌≡◌, ◌<◌, ◌≤◌, ℕ, false}
use Rattle.kssd_values.specs.Blocks.{device_of, is_live_at, IsClosed}
use Rattle.kssd_parts.proofs.reclaim.all_dead.Given as goal

abbrev pub invariant-loop-page : goal.invariant-loop-page
invariant-loop-page l = record {
  closed : IsClosed l.values l.block;
  dead : (q : ℕ) → l.first ≤ q → q < l.page → is_live_at l.values q ≡ false;
  device : device_of l.values ≡ device_of l.fn.values;
}
