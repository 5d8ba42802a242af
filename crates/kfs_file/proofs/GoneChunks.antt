-- The chunks of a file are deleted one by one.
use Rattle.std.proofs.Common.{◌≡◌, ◌≢◌, ℕ, ◌<◌, ◌≤◌, ◌+◌, ◌-◌, ◌⊎◌, inl, inr, cond, refl, sym, ◌∙◌, ap, subst, arith, List, Some, None, unwrap_or}
use Rattle.std.specs.Cmp.Lexicographic.{nat_list_cmp_total}
use Rattle.std.specs.FinMap as objects
use Rattle.std.proofs.lemmas.List.{length-set}
use Rattle.kv_device.specs.declared.fault.DeviceFault.{DeviceFault}
use Rattle.kv_device.specs.Machine.{Machine, changes_of}
use Rattle.kv_device.specs.Objects.{Objects}
use Rattle.kfs_objects.specs.Keys.{chunk_key}
use Rattle.kfs_tx.specs.Tx.{Tx, changed_keys, deleted_in, seen, Caused, Fallen}
use Rattle.kfs_tx.proofs.Falling.{delete_falls, only_memory_falls}
use Rattle.kfs_tx.proofs.Seeing.{ready_deleted, seen_deleted, keys_deleted}
use Rattle.kfs_shows.proofs.Lookups.{decide_bytes, tie_test, apart_test, same_bytes}
use Rattle.kfs_file.specs.Contents.{RemovesChunks, RemoveFault, FailsWithin, ChangesAtMost}
use Rattle.kfs_file.proofs.Failing.{cause_before, fallen_before}

removed_here : (m : Objects) (k : List ℕ) → objects.get (objects.remove m k) k ≡ None
removed_here m k = objects.get-remove nat_list_cmp_total m k k ∙ ap (λ b. cond b None (objects.get m k)) (tie_test nat_list_cmp_total same_bytes k)

removed_other : (m : Objects) (k q : List ℕ) → q ≢ k → objects.get (objects.remove m k) q ≡ objects.get m q
removed_other m k q d = objects.get-remove nat_list_cmp_total m k q ∙ ap (λ b. cond b None (objects.get m q)) (apart_test nat_list_cmp_total same_bytes q k d)

pub removes_none : (r : Tx) (node from : ℕ) → RemovesChunks r node from from r
removes_none r node from = record { ready = λ h. h; gone = λ c ready le lt. absurd (omega arith); others = λ q ready d. refl; same = refl; slots = refl }

below : (c k : ℕ) → c < k + 1 → (c < k) ⊎ (c ≡ k)
below c k lt = grind arith

pub removes_more : (old mid new : Tx) (node from k : ℕ) → RemovesChunks old node from k mid → from ≤ k → new ≡ deleted_in mid (chunk_key node k) → RemovesChunks old node from (k + 1) new
removes_more old mid new node from k before least is =
    let key = chunk_key node k in
    subst (RemovesChunks old node from (k + 1)) (sym is) (record {
      ready = λ h. ready_deleted mid key (before.ready h);
      gone = λ c ready le lt. ap (λ m. objects.get m (chunk_key node c)) (seen_deleted mid key (before.ready ready)) ∙ elim (decide_bytes (chunk_key node c) key) [
        | inl same ↦ ap (λ q. objects.get (objects.remove (seen mid) key) q) same ∙ removed_here (seen mid) key
        | inr other ↦ removed_other (seen mid) key (chunk_key node c) other ∙ elim (below c k lt) [
          | inl less ↦ before.gone c ready le less
          | inr same ↦ absurd (other (ap (chunk_key node) same))
        ]
      ];
      others = λ q ready d. ap (λ m. objects.get m q) (seen_deleted mid key (before.ready ready)) ∙ removed_other (seen mid) key q (d k least (omega arith)) ∙ before.others q ready (λ c le lt. d c le (omega arith));
      same = ap (λ (r : Tx). record r { machine = record r.machine { pending = (deleted_in mid key).machine.pending } }) before.same;
      slots = length-set mid.machine.pending mid.id (Some (objects.insert (unwrap_or (changes_of mid.machine mid.id) objects.empty) key None)) ∙ before.slots;
    })

pub keys_more : (old mid new : Tx) (node from k : ℕ) → RemovesChunks old node from k mid → from ≤ k → new ≡ deleted_in mid (chunk_key node k) → ChangesAtMost old (k - from) mid → ChangesAtMost old (k + 1 - from) new
keys_more old mid new node from k before least is few = λ ready.
    let one : changed_keys new ≤ changed_keys mid + 1 = subst (λ (r : Tx). changed_keys r ≤ changed_keys mid + 1) (sym is) (keys_deleted mid (chunk_key node k) (before.ready ready)) in
    let so_far = few ready in
    omega arith

-- a fault in the middle
pub removal_fails : (old mid : Tx) (node from k keys : ℕ) (fault : DeviceFault) (new : Machine) → RemovesChunks old node from k mid → ChangesAtMost old (k - from) mid → k - from < keys → RemoveFault mid (chunk_key node k) fault new → FailsWithin old keys fault new
removal_fails old mid node from k keys fault new before few lt h = record {
  cause = cause_before old.machine mid.machine.pending fault new (subst (λ (r : Tx). Caused r.machine fault new) before.same h.1);
  fallen = λ ready room. fallen_before old.machine mid.machine.pending fault new (subst (λ (r : Tx). Fallen r.machine fault r.machine.stable new) before.same (elim (h.0) [
    | inl none ↦ only_memory_falls mid new fault none.0 none.1
    | inr device ↦ let so_far = few ready in delete_falls mid (chunk_key node k) fault new (before.ready ready) (omega arith) device
  ]));
}
