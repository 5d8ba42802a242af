use Rattle.std.proofs.Common.{arith}
use Rattle.std.proofs.lemmas.Result.{err_from_is_err_and}
use Rattle.kfs_core.proofs.Cleared.{clears_both, clear_fails_after}
use Rattle.kfs_tx.specs.Tx.{seen}
use Rattle.kfs_core.proofs.Swept.{sweeps_both, tidy_after, roomy_after}
use Rattle.kfs_core.proofs.clearing.clear.Goals as goal

pub returns-in_err-clear_next-clause-err : goal.returns-in_err-clear_next-clause-err
returns-in_err-clear_next-clause-err g c =
    let p = err_from_is_err_and c.from_residual.result c.from_residual.ensures.1 in
    rw (p.1, p.2) (clear_fails_after c.args.running.now.tx c.loop-turn.running.tx c.in_err-clear_next.field-0.0 c.clear_next.new.running.tx.machine c.loop-turn.invariant.clears c.in_err-clear_next.ensures.err)

pub returns-then-not-branch-clause-clears : goal.returns-then-not-branch-clause-clears
returns-then-not-branch-clause-clears g c = clears_both c.args.running.now.tx c.loop-turn.running.tx c.clear_next.new.running.tx c.loop-turn.invariant.clears c.in_ok-clear_next.ensures.clears

pub loop-turn-preserved : goal.loop-turn-preserved
loop-turn-preserved g c =
    let first = c.loop-turn.invariant.age in
    let then = c.in_ok-clear_next.ensures.age in
    record {
      clears = clears_both c.args.running.now.tx c.loop-turn.running.tx c.clear_next.new.running.tx c.loop-turn.invariant.clears c.in_ok-clear_next.ensures.clears;
      sweeps = sweeps_both (seen c.args.running.now.tx) (seen c.loop-turn.running.tx) (seen c.clear_next.new.running.tx) c.loop-turn.invariant.sweeps c.in_ok-clear_next.ensures.sweeps;
      few = omega (arith, c.loop-turn.invariant.few, c.in_ok-clear_next.ensures.fewer c.if-not-branch.false);
      age = record {
        device = record { later = omega (arith, first.device.later, then.device.later); bounded = omega (arith, first.device.bounded, then.device.bounded) };
        whole = record { later = omega (arith, first.whole.later, then.whole.later); bounded = omega (arith, first.whole.bounded, then.whole.bounded) };
      };
    }

pub returns-then-not-branch-clause-sweeps : goal.returns-then-not-branch-clause-sweeps
returns-then-not-branch-clause-sweeps g c = sweeps_both (seen c.args.running.now.tx) (seen c.loop-turn.running.tx) (seen c.clear_next.new.running.tx) c.loop-turn.invariant.sweeps c.in_ok-clear_next.ensures.sweeps

pub clear_next-requires-clause-tidy : goal.clear_next-requires-clause-tidy
clear_next-requires-clause-tidy g c = tidy_after (seen c.args.running.now.tx) (seen c.loop-turn.running.tx) c.loop-turn.invariant.sweeps c.requires.tidy

pub clear_next-requires-clause-room : goal.clear_next-requires-clause-room
clear_next-requires-clause-room g c = roomy_after c.args.running.now.tx c.loop-turn.running.tx c.loop-turn.invariant.clears c.loop-turn.invariant.sweeps c.requires.room
