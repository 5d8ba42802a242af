use Rattle.std.proofs.Common.{◌≤◌, ap, subst, arith}
use Rattle.kfs_damages.specs.Damages.{named_charge, named_chunks}
use Rattle.kfs_judge.specs.Judging.{heard}
use Rattle.kfs_tx.specs.Tx.{seen}
use Rattle.kfs_core.specs.Clearing.{AreNodesNamed}
use Rattle.kfs_core.specs.Counted.{charge_in, chunks_in}
use Rattle.kfs_core.proofs.Fewer.{no_more}
use Rattle.kfs_core.proofs.Within.{charge_within, chunks_within}
use Rattle.kfs_core.proofs.kfs.left_over.Goals as goal

pub count-requires-clause-few : goal.count-requires-clause-few
count-requires-clause-few g c =
    let less = no_more (seen c.args.running.now.tx) (seen c.clear.new.running.tx) c.in_ok-clear.ensures.sweeps.kept in
    omega (arith, c.requires.few, less)

pub returns-clause-charged : goal.returns-clause-charged
returns-clause-charged g c =
    let old = seen c.args.running.now.tx in
    let mid = seen c.clear.new.running.tx in
    let less = no_more old mid c.in_ok-clear.ensures.sweeps.kept in
    let named = subst AreNodesNamed (ap seen c.in_ok-taken.ensures.same) c.in_ok-taken.ensures.named in
    let most : charge_in mid ≤ named_charge (heard old) = charge_within old mid c.requires.tidy c.in_ok-clear.ensures.sweeps c.in_ok-clear.ensures.none named (omega (arith, c.requires.few, less)) in
    omega (arith, c.in_ok-taken.ensures.charge, most)

pub returns-clause-chunked : goal.returns-clause-chunked
returns-clause-chunked g c =
    let old = seen c.args.running.now.tx in
    let mid = seen c.clear.new.running.tx in
    let less = no_more old mid c.in_ok-clear.ensures.sweeps.kept in
    let named = subst AreNodesNamed (ap seen c.in_ok-taken.ensures.same) c.in_ok-taken.ensures.named in
    let most : chunks_in mid ≤ named_chunks (heard old) = chunks_within old mid c.requires.tidy c.in_ok-clear.ensures.sweeps c.in_ok-clear.ensures.none named (omega (arith, c.requires.few, less)) in
    omega (arith, c.in_ok-taken.ensures.chunks, most)
