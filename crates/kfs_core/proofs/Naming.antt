-- What stands between where a name is taken away, and the faults.
use Rattle.std.proofs.Common.{◌≡◌, ℕ, ◌≤◌, ◌+◌, ◌&&◌, inr, true, false, Bool, refl, sym, ◌∙◌, ap, subst, arith, List, length, Some, Result, Ok, nat_lt, unwrap_or}
use Rattle.std.specs.FinMap as objects
use Rattle.std.proofs.lemmas.Bool.Decides.{nat_tests}
use Rattle.std.proofs.lemmas.List.{length-set}
use Rattle.kv_device.specs.declared.fault.DeviceFault.{DeviceFault}
use Rattle.kv_device.specs.Machine.{Machine, changes_of}
use Rattle.kfs_objects.specs.Keys.{entry_key, orphan_key}
use Rattle.kfs_objects.specs.Records.{orphan_value, entry_value}
use Rattle.kfs_objects.proofs.KeyLaws.{length_be64}
use Rattle.kv_device.specs.Objects.{Objects}
use Rattle.kfs_path.specs.declared.call.Errno.{Errno}
use Rattle.kfs_tx.specs.Tx.{Tx, seen, put_in, deleted_in, PutFault}
use Rattle.kfs_tx.proofs.Seeing.{ready_put, keys_put}
use Rattle.kfs_tx.proofs.Falling.{put_falls}
use Rattle.kfs_file.specs.Contents.{FailsWithin}
use Rattle.kfs_file.proofs.Failing.{fails_after}
use Rattle.kfs_core.specs.Removing.{Leaf, Loses, Unnames, UnlinkFault, UnlinkFails, ReleaseFault, ReleaseFails, release_at, chunks_lost, chunks_gone}
use Rattle.kfs_core.specs.declared.fault.CoreFault.TheVariants.{Device}
use Rattle.kfs_core.specs.Core.{KfsState, tx_in, Stays}
use Rattle.kfs_core.specs.Flat.{inode_in}
use Rattle.kfs_core.proofs.Dropped.{Follows, goes_follows, follows_deleted}

small_value : (key value : List ℕ) → length value ≤ 128 → (nat_lt 128 (length value) && nat_lt 32 (length key)) ≡ false
small_value key value le = let f : nat_lt 128 (length value) ≡ false = grind (arith, nat_tests) in ap (λ b. b && nat_lt 32 (length key)) f

-- a small value that wasn't put
pub put_fails : (r : Tx) (key value : List ℕ) (fault : DeviceFault) (new : Machine) → length value ≤ 128 → PutFault r key value fault new → FailsWithin r 1 fault new
put_fails r key value fault new small h = record {
  cause = h.1;
  fallen = λ ready room. put_falls r key value fault new ready (omega arith) (small_value key value small) h;
}

pub orphan_small : length orphan_value ≤ 128
orphan_small = omega arith

pub entry_small : (node : ℕ) → length (entry_value node) ≤ 128
entry_small node = let h = length_be64 node in omega arith

pub follows_none : (r : Tx) → Follows r r 0
follows_none r = record { ready = λ h. h; few = λ h. omega arith; same = refl; slots = refl }

pub follows_put : (old mid : Tx) (key value : List ℕ) (most : ℕ) → Follows old mid most → Follows old (put_in mid key value) (most + 1)
follows_put old mid key value most h = record {
  ready = λ r. ready_put mid key value (h.ready r);
  few = λ r. let a = h.few r in let b = keys_put mid key value (h.ready r) in omega arith;
  same = ap (λ (r : Tx). record r { machine = record r.machine { pending = (put_in mid key value).machine.pending } }) h.same;
  slots = length-set mid.machine.pending mid.id (Some (objects.insert (unwrap_or (changes_of mid.machine mid.id) objects.empty) key (Some value))) ∙ h.slots;
}

-- a failure in what follows
pub fails_following : (old mid : Tx) (j k all : ℕ) (fault : DeviceFault) (new : Machine) → Follows old mid j → j + k ≤ all → FailsWithin mid k fault new → FailsWithin old all fault new
fails_following old mid j k all fault new h le f = fails_after old mid j k all fault new h.same h.ready h.few le f

pub loses_follows : (old new : Tx) (node size : ℕ) (open_now : Bool) → Loses old node size open_now new → Follows old new (1 + chunks_lost size open_now)
loses_follows old new node size true h = subst (λ (r : Tx). Follows old r 1) (sym h) (follows_put old old (orphan_key node) orphan_value 0 (follows_none old))
loses_follows old new node size false h = let f = goes_follows old new node size h in record { ready = f.ready; few = λ r. let a = f.few r in omega arith; same = f.same; slots = f.slots }

pub unnames_follows : (old new : Tx) (leaf : Leaf) (open_now : Bool) → Unnames old leaf open_now new → Follows old new (2 + chunks_gone leaf open_now)
unnames_follows old new leaf open_now h =
    let r = deleted_in old (entry_key leaf.parent leaf.name) in
    let a = follows_deleted old old (entry_key leaf.parent leaf.name) 0 (follows_none old) in
    let b = loses_follows r new leaf.node leaf.size open_now h in
    record {
      ready = λ ready. b.ready (a.ready ready);
      few = λ ready. let x = a.few ready in let y = b.few (a.ready ready) in omega arith;
      same = b.same ∙ ap (λ (x : Tx). record x { machine = record x.machine { pending = new.machine.pending } }) a.same;
      slots = b.slots ∙ a.slots;
    }

-- ---- as the calls tell it

pub unlink_failed : (old new : KfsState) (r mid : Tx) (judge : Objects → Result Leaf Errno) (is_open : ℕ → Bool) (leaf : Leaf) (open_now : Bool) (fault : DeviceFault) → r ≡ tx_in old → mid ≡ r → judge (seen r) ≡ Ok leaf → open_now ≡ is_open leaf.node
    → UnlinkFault mid leaf open_now fault (tx_in new).machine → Stays old new → UnlinkFails old (judge (seen (tx_in old))) is_open (Device fault) new
unlink_failed old new r mid judge is_open leaf open_now fault is leaves gives opened h stays =
    let judged : judge (seen (tx_in old)) ≡ Ok leaf = ap (λ (x : Tx). judge (seen x)) (sym is) ∙ gives in
    let at = subst (λ b. UnlinkFault mid leaf b fault (tx_in new).machine) opened h in
    let failed = subst (λ (x : Tx). UnlinkFault x leaf (is_open leaf.node) fault (tx_in new).machine) (leaves ∙ is) at in
    (stays, inr (leaf, judged, failed))

pub release_failed : (old new : KfsState) (r mid : Tx) (node size : ℕ) (fault : DeviceFault) → r ≡ tx_in old → mid ≡ r → release_at (inode_in (seen r) node) ≡ Ok size
    → ReleaseFault mid node size fault (tx_in new).machine → Stays old new → ReleaseFails old node (release_at (inode_in (seen (tx_in old)) node)) (Device fault) new
release_failed old new r mid node size fault is leaves gives h stays =
    let judged : release_at (inode_in (seen (tx_in old)) node) ≡ Ok size = ap (λ (x : Tx). release_at (inode_in (seen x) node)) (sym is) ∙ gives in
    let failed = subst (λ (x : Tx). ReleaseFault x node size fault (tx_in new).machine) (leaves ∙ is) h in
    (stays, inr (size, judged, failed))
