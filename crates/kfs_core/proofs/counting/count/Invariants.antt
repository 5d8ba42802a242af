use Rattle.std.proofs.Common.{ℕ, ◌≡◌, ◌+◌, ◌*◌, ◌<◌, ◌≤◌, true, Some, take, slice_get, sum_by}
use Rattle.kv_base.specs.declared.pairs.Pair.{Pair}
use Rattle.kfs_objects.specs.Records.{read_inode}
use Rattle.kfs_judge.specs.Judging.{is_key}
use Rattle.kfs_damages.specs.Damages.{keys_of, chunks_of}
use Rattle.kfs_core.proofs.counting.count.Given as goal

-- the charge and the chunks so far
abbrev pub invariant-loop-pair : goal.invariant-loop-pair
invariant-loop-pair g l = record {
  charge : l.charge ≡ 1 + sum_by (λ (p : Pair). keys_of (read_inode p.value)) (take l.pair-index l.pair-items);
  chunks : l.chunks ≡ sum_by (λ (p : Pair). chunks_of (read_inode p.value)) (take l.pair-index l.pair-items);
  named : (k : ℕ) (pair : Pair) → k < l.pair-index → slice_get l.pair-items k ≡ Some pair → is_key pair.key ≡ true;
  fewer : l.chunks ≤ l.charge;
  most : l.charge ≤ 1 + 258 * l.pair-index;
}
