use Rattle.std.proofs.Common.{◌≤◌, ◌<◌, ℕ}
use Rattle.kssd_values.specs.Blocks.{IsClosed, live_in}
use Rattle.kssd_values.proofs.Victims.{BestIs}
use Rattle.kssd_values.proofs.values.Values.victim.Given as goal

abbrev pub invariant-loop-block : goal.invariant-loop-block
invariant-loop-block l = record {
  best : BestIs l.self l.block l.fewest l.victim;
  least : (b : ℕ) → IsClosed l.self b → b < l.block → l.fewest ≤ live_in l.self b;
  most : l.fewest ≤ 32;
}
