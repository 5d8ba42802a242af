use Rattle.std.proofs.lemmas.List.Sums.{sum_by_more}
use Rattle.kfs_objects.specs.Records.{read_inode}
use Rattle.std.proofs.Common.{◌+◌, ◌-◌, ◌^◌, List, ℕ, length, map, take, slice_get, ◌∙◌, sym, ap, subst, arith}
use Rattle.kv_base.specs.declared.pairs.Pair.{Pair}
use Rattle.kv_device.specs.Objects.{pairs_from, pair_of}
use Rattle.kfs_objects.specs.Keys.{inode_front}
use Rattle.kfs_tx.specs.Tx.{seen}
use Rattle.kfs_damages.specs.Damages.{keys_of, chunks_of}
use Rattle.kfs_core.specs.Counted.{charge_in, chunks_in}
use Rattle.kfs_core.proofs.Charged.{all_weighed, few_taken}
use Rattle.kfs_core.proofs.Listed.{slice_of, listed_short, all_named, one_more_named, each_named}
use Rattle.kfs_core.specs.Clearing.{AreNodesNamed}
use Rattle.kfs_core.proofs.counting.count.Goals as goal

pub overflow_add-charge : goal.overflow_add-charge
overflow_add-charge g c =
    let few = few_taken c.in_ok-pairs.pairs (pairs_from (seen c.args.running.now.tx) c.in_ok-prefix.prefix c.in_ok-prefix.prefix) (2 ^ 32 - 1) c.in_ok-pairs.ensures.found in
    let same = ap (λ (l : List Pair). length l) c.as_slice-pair-items.ensures in
    omega arith

pub overflow_add-chunks : goal.overflow_add-chunks
overflow_add-chunks g c =
    let few = few_taken c.in_ok-pairs.pairs (pairs_from (seen c.args.running.now.tx) c.in_ok-prefix.prefix c.in_ok-prefix.prefix) (2 ^ 32 - 1) c.in_ok-pairs.ensures.found in
    let same = ap (λ (l : List Pair). length l) c.as_slice-pair-items.ensures in
    omega arith

pub returns-clause-charge : goal.returns-clause-charge
unfolding charge_in
returns-clause-charge g c =
    let m = seen c.args.running.now.tx in
    c.loop-pair.invariant.charge ∙ ap (λ n. 1 + n) (all_weighed keys_of c.as_slice-pair-items.result.now (take (2 ^ 32 - 1) (pairs_from m inode_front inode_front)) c.loop-pair.pair-index
    (ap (map pair_of) c.as_slice-pair-items.ensures ∙ c.in_ok-pairs.ensures.found ∙ ap (λ (k : List ℕ). take (2 ^ 32 - 1) (pairs_from m k k)) c.in_ok-prefix.ensures)
    (omega arith))

pub returns-clause-chunks : goal.returns-clause-chunks
unfolding chunks_in
returns-clause-chunks g c =
    let m = seen c.args.running.now.tx in
    c.loop-pair.invariant.chunks ∙ all_weighed chunks_of c.as_slice-pair-items.result.now (take (2 ^ 32 - 1) (pairs_from m inode_front inode_front)) c.loop-pair.pair-index
    (ap (map pair_of) c.as_slice-pair-items.ensures ∙ c.in_ok-pairs.ensures.found ∙ ap (λ (k : List ℕ). take (2 ^ 32 - 1) (pairs_from m k k)) c.in_ok-prefix.ensures)
    (omega arith)

pub weigh_pair-keys-requires : goal.weigh_pair-keys-requires
weigh_pair-keys-requires g c =
    let m = seen c.args.running.now.tx in
    listed_short m (2 ^ 32 - 1) c.in_ok-pairs.pairs c.loop-pair.pair-index c.pair-item.result c.requires.tidy
    (c.in_ok-pairs.ensures.found ∙ ap (λ (k : List ℕ). take (2 ^ 32 - 1) (pairs_from m k k)) c.in_ok-prefix.ensures)
    (ap (λ (l : List Pair). slice_get l c.loop-pair.pair-index) (sym c.as_slice-pair-items.ensures) ∙ slice_of c.as_slice-pair-items.result.now c.loop-pair.pair-index c.pair-item.result c.loop-pair-test.true c.pair-item.is)

pub loop-pair-preserved : goal.loop-pair-preserved
loop-pair-preserved g c = record {
  charge = (let more = sum_by_more (λ (p : Pair). keys_of (read_inode p.value)) c.as_slice-pair-items.result.now c.loop-pair.pair-index c.pair-item.result c.loop-pair-test.true in let now = ap (λ (p : Pair). keys_of (read_inode p.value)) c.pair-item.is in omega (arith, c.loop-pair.invariant.charge, c.weigh_pair-keys.ensures.keys, more, now));
  chunks = (let more = sum_by_more (λ (p : Pair). chunks_of (read_inode p.value)) c.as_slice-pair-items.result.now c.loop-pair.pair-index c.pair-item.result c.loop-pair-test.true in let now = ap (λ (p : Pair). chunks_of (read_inode p.value)) c.pair-item.is in omega (arith, c.loop-pair.invariant.chunks, c.weigh_pair-keys.ensures.chunks, more, now));
  named = one_more_named c.as_slice-pair-items.result.now c.loop-pair.pair-index c.pair-item.result c.loop-pair.invariant.named (slice_of c.as_slice-pair-items.result.now c.loop-pair.pair-index c.pair-item.result c.loop-pair-test.true c.pair-item.is) c.weigh_pair-keys.ensures.named;
  fewer = omega (arith, c.loop-pair.invariant.fewer, c.weigh_pair-keys.ensures.fewer);
  most = omega (arith, c.loop-pair.invariant.most, c.weigh_pair-keys.ensures.most);
}

pub returns-clause-named : goal.returns-clause-named
returns-clause-named g c =
    let m = seen c.args.running.now.tx in
    let found = c.in_ok-pairs.ensures.found ∙ ap (λ (k : List ℕ). take (2 ^ 32 - 1) (pairs_from m k k)) c.in_ok-prefix.ensures in
    subst AreNodesNamed (ap seen (sym c.in_ok-pairs.ensures.same))
    (all_named m c.in_ok-pairs.pairs c.requires.few found (each_named c.in_ok-pairs.pairs c.as_slice-pair-items.result.now c.loop-pair.pair-index c.as_slice-pair-items.ensures (omega arith) c.loop-pair.invariant.named))
