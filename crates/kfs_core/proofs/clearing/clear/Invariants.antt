use Rattle.std.proofs.Common.{◌≤◌, ◌+◌, ◌*◌, ◌^◌}
use Rattle.std.specs.FinMap as objects
use Rattle.kfs_tx.specs.Tx.{Aged, seen}
use Rattle.kfs_core.specs.Clearing.{Clears, Sweeps}
use Rattle.kfs_core.proofs.clearing.clear.Given as goal

-- so far nameless nodes alone were removed
abbrev pub invariant-loop-turn : goal.invariant-loop-turn
invariant-loop-turn g l = record {
  clears : Clears l.fn.running.tx l.running.tx;
  sweeps : Sweeps (seen l.fn.running.tx) (seen l.running.tx);
  few : objects.len (seen l.running.tx) + l._turn ≤ 68544;
  age : Aged l.fn.running l.running (2 ^ 16 * l._turn);
}
