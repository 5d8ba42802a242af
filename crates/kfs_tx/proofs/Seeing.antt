-- What the transaction sees after its calls.
use Rattle.std.proofs.Common.{◌≡◌, ℕ, ◌≤◌, ◌+◌, true, false, cond, Bool, refl, ◌∙◌, ap, arith, List, Option, Some, None, is_some, unwrap_or, option_and_then, slice_get, slice_set}
use Rattle.std.specs.FinMap as objects
use Rattle.std.specs.Cmp.Lexicographic.{nat_list_cmp_total}
use Rattle.kv_device.specs.Bytes.{bytes_cmp}
use Rattle.kv_device.specs.Objects.{Objects, Changes, seen_through}
use Rattle.kv_device.specs.Machine.{view, changes_of, is_open}
use Rattle.kv_device.proofs.ViewLaws.{view-with_change}
use Rattle.kv_device.proofs.MachineLaws.{get-seen_through}
use Rattle.kv_device.proofs.KeyMapLaws.{same_keys}
use Rattle.kfs_tx.specs.Tx.{Tx, IsReady, is_alone, seen, changed_keys, put_in, deleted_in, committed}
use Rattle.kfs_tx.proofs.Alone.{alone_is, is_alone_first, alone_changed}

pub ready_open : (r : Tx) → IsReady r → is_open r.machine r.id ≡ true
ready_open r ready = let a = alone_is r.machine.pending r.id ready.alone in λ i. is_some (option_and_then (λ t. t) (slice_get (a.is i) (a.first i)))

pub ready_put : (r : Tx) (key value : List ℕ) → IsReady r → IsReady (put_in r key value)
ready_put r key value ready = record { up = ready.up; alone = alone_changed r.machine r.id key (Some value) ready.alone }

pub seen_put : (r : Tx) (key value : List ℕ) → IsReady r → seen (put_in r key value) ≡ objects.insert (seen r) key value
seen_put r key value ready = view-with_change r.machine r.id key (Some value) (ready_open r ready)

-- the changes of the transaction
pub own : (r : Tx) → IsReady r → (c : Changes) × (changes_of r.machine r.id ≡ Some c)
own r ready = let a = alone_is r.machine.pending r.id ready.alone in (a.changes, λ i. option_and_then (λ t. t) (slice_get (a.is i) (a.first i)))

changes_put : (r : Tx) (key value : List ℕ) → IsReady r → changes_of (put_in r key value).machine r.id ≡ Some (objects.insert (unwrap_or (changes_of r.machine r.id) objects.empty) key (Some value))
changes_put r key value ready =
    let a = alone_is r.machine.pending r.id ready.alone in
    let c = objects.insert (unwrap_or (changes_of r.machine r.id) objects.empty) key (Some value) in
    λ i. option_and_then (λ t. t) (slice_get (slice_set (a.is i) (a.first i) (Some c)) (a.first i))

len_insert : (c : Changes) (key : List ℕ) (change : Option (List ℕ)) → objects.len (objects.insert c key change) ≤ objects.len c + 1
len_insert c key change = rw (objects.len-insert nat_list_cmp_total c key change) (by (objects.contains_key c key))
  where
    by : (b : Bool) → cond b (objects.len c) (objects.len c + 1) ≤ objects.len c + 1
    by true = omega arith
    by false = omega arith

pub keys_put : (r : Tx) (key value : List ℕ) → IsReady r → changed_keys (put_in r key value) ≤ changed_keys r + 1
keys_put r key value ready = rw (changes_put r key value ready) (len_insert (unwrap_or (changes_of r.machine r.id) objects.empty) key (Some value))

pub seen_nothing : (m : Objects) → seen_through objects.empty m ≡ m
seen_nothing m = objects.same_map nat_list_cmp_total same_keys _ _ (λ q. get-seen_through objects.empty m q ∙ rw (objects.get-empty bytes_cmp q) refl)

-- the same after a deletion
pub ready_deleted : (r : Tx) (key : List ℕ) → IsReady r → IsReady (deleted_in r key)
ready_deleted r key ready = record { up = ready.up; alone = alone_changed r.machine r.id key None ready.alone }

pub seen_deleted : (r : Tx) (key : List ℕ) → IsReady r → seen (deleted_in r key) ≡ objects.remove (seen r) key
seen_deleted r key ready = view-with_change r.machine r.id key None (ready_open r ready)

changes_deleted : (r : Tx) (key : List ℕ) → IsReady r → changes_of (deleted_in r key).machine r.id ≡ Some (objects.insert (unwrap_or (changes_of r.machine r.id) objects.empty) key None)
changes_deleted r key ready =
    let a = alone_is r.machine.pending r.id ready.alone in
    let c = objects.insert (unwrap_or (changes_of r.machine r.id) objects.empty) key None in
    λ i. option_and_then (λ t. t) (slice_get (slice_set (a.is i) (a.first i) (Some c)) (a.first i))

pub keys_deleted : (r : Tx) (key : List ℕ) → IsReady r → changed_keys (deleted_in r key) ≤ changed_keys r + 1
keys_deleted r key ready = rw (changes_deleted r key ready) (len_insert (unwrap_or (changes_of r.machine r.id) objects.empty) key None)

-- after a commit
changes_committed : (r : Tx) → IsReady r → changes_of (committed r).machine 0 ≡ Some objects.empty
changes_committed r ready =
    let a = alone_is r.machine.pending r.id ready.alone in
    λ i. option_and_then (λ t. t) (slice_get (slice_set (slice_set (a.is i) (a.first i) None) 0 (Some objects.empty)) 0)

pub ready_committed : (r : Tx) → IsReady r → IsReady (committed r)
ready_committed r ready =
    let a = alone_is r.machine.pending r.id ready.alone in
    record { up = ready.up; alone = (λ i. is_alone (slice_set (slice_set (a.is i) (a.first i) None) 0 (Some objects.empty)) 0) ∙ is_alone_first objects.empty a.rest a.none }

pub seen_committed : (r : Tx) → IsReady r → seen (committed r) ≡ seen r
unfolding view
seen_committed r ready = ap (λ c. seen_through (unwrap_or c objects.empty) (view r.machine r.id)) (changes_committed r ready) ∙ seen_nothing (view r.machine r.id)

pub keys_committed : (r : Tx) → IsReady r → changed_keys (committed r) ≡ 0
keys_committed r ready = ap (λ c. objects.len (unwrap_or c objects.empty)) (changes_committed r ready) ∙ objects.len-empty bytes_cmp (_)
