-- Each nameless node that goes leaves fewer objects.
use Rattle.std.proofs.Common.{◌≡◌, ◌≢◌, ℕ, zero, suc, ◌<◌, ◌≤◌, ◌-◌, ◌^◌, ◌⊎◌, inl, inr, true, cond, refl, sym, ◌∙◌, ap, arith, List, [], ◌∷◌, length, map, Option, Some, None, is_some, IsSome}
use Rattle.std.specs.Ordering.{is_eq}
use Rattle.std.specs.declared.cmp.Ordering.{Ordering}
use Rattle.std.specs.declared.cmp.Ordering.TheVariants.{Less, Equal, Greater}
use Rattle.std.specs.Cmp.Lexicographic.{nat_list_cmp_total}
use Rattle.std.specs.FinMap as objects
use Rattle.std.specs.FinMap.{find}
use Rattle.std.proofs.lemmas.List.{length-map}
use Rattle.kv_device.specs.Bytes.{bytes_cmp}
use Rattle.kv_device.specs.Objects.{Objects}
use Rattle.kfs_objects.specs.Keys.{inode_key, chunk_key, orphan_key}
use Rattle.kfs_shows.proofs.Lookups.{decide_bytes, same_bytes, key_kept}
use Rattle.kfs_shows.proofs.KeysApart.{kinds}
use Rattle.kfs_shows.proofs.Counting.{In, few_kept, kept_all}
use Rattle.kfs_tx.specs.Tx.{Tx, IsReady, seen, committed, deleted_in}
use Rattle.kfs_tx.proofs.Seeing.{ready_deleted, seen_deleted, seen_committed}
use Rattle.kfs_core.specs.Removing.{Goes, chunks_for}
use Rattle.kfs_core.proofs.Dropped.{goes_follows, inode_gone, chunk_gone, others_kept}

found_in : (es : List (List ℕ × List ℕ)) (q v : List ℕ) → find bytes_cmp q es ≡ Some v → In (map (λ e. e.0) es) q
found_in [] q v e = absurd (cc)
found_in (x ∷ es) q v e = by (bytes_cmp q x.0) refl (found_in es q v) e
  where
    by : (r : Ordering) → bytes_cmp q x.0 ≡ r → (find bytes_cmp q es ≡ Some v → In (map (λ e. e.0) es) q) → cond (is_eq r) (Some x.1) (find bytes_cmp q es) ≡ Some v → In (map (λ e. e.0) (x ∷ es)) q
    by Equal r rest e = inl (same_bytes q x.0 r)
    by Less r rest e = inr (rest e)
    by Greater r rest e = inr (rest e)

some_of : (o : Option (List ℕ)) → IsSome o → (v : List ℕ) × (o ≡ Some v)
some_of None h = absurd (cc)
some_of (Some v) h = (v, refl)

-- where each key was there before there are no more
pub no_more : (old new : Objects) → ((q v : List ℕ) → objects.get new q ≡ Some v → objects.get old q ≡ Some v) → objects.len new ≤ objects.len old
no_more old new h =
    let few = few_kept (λ e. true) new (map (λ e. e.0) (objects.entries old)) (λ q v e _. found_in (objects.entries old) q v (sym (objects.get-entries old q) ∙ h q v e)) in
    let a = kept_all (objects.entries new) in
    let b = objects.len-entries new in
    let c = objects.len-entries old in
    let d = length-map (objects.entries old) (λ e. e.0) in
    omega arith

positive : (es : List (List ℕ × List ℕ)) (q v : List ℕ) → find bytes_cmp q es ≡ Some v → 0 < length es
positive [] q v e = absurd (cc)
positive (x ∷ es) q v e = omega arith

removed_fewer : (m : Objects) (k v : List ℕ) → objects.get m k ≡ Some v → objects.len (objects.remove m k) < objects.len m
removed_fewer m k v e =
    let some = positive (objects.entries m) k v (sym (objects.get-entries m k) ∙ e) in
    let long = objects.len-entries m in
    let there : objects.contains_key m k ≡ true = ap is_some e in
    let less : objects.len (objects.remove m k) ≡ objects.len m - 1 = objects.len-remove nat_list_cmp_total m k ∙ ap (λ b. cond b (objects.len m - 1) (objects.len m)) there in
    omega arith

-- a chunk's key, or none of them
side : (c k : ℕ) → c < suc k → (c < k) ⊎ (c ≡ k)
side c k lt = grind arith

chunk_or : (q : List ℕ) (node to : ℕ) → ((c : ℕ) × (c < to) × (q ≡ chunk_key node c)) ⊎ ((c : ℕ) → c < to → q ≢ chunk_key node c)
chunk_or q node zero = inr (λ c lt e. absurd (omega arith))
chunk_or q node (suc k) = elim (decide_bytes q (chunk_key node k)) [
  | inl same ↦ inl (k, omega arith, same)
  | inr other ↦ elim (chunk_or q node k) [
    | inl h ↦ inl (h.0, (let lt = h.1 in omega arith), h.2)
    | inr none ↦ inr (λ c lt e. elim (side c k lt) [
      | inl less ↦ none c less e
      | inr same ↦ other (e ∙ ap (chunk_key node) same)
    ])
  ]
]

module _ (old new : Tx) (node size : ℕ) (goes : Goes old node size new) (ready : IsReady old) (low : node < 2 ^ 64) (short : size ≤ 2 ^ 20) where
  seen_now : seen new ≡ objects.remove (seen goes.mid) (inode_key node)
  seen_now = ap seen goes.inode ∙ seen_deleted goes.mid (inode_key node) (goes.chunks.ready ready)

  pub was_there : (q v : List ℕ) → objects.get (seen new) q ≡ Some v → objects.get (seen old) q ≡ Some v
  was_there q v e = elim (decide_bytes q (inode_key node)) [
    | inl same ↦ absurd (let bad : Some v ≡ None = sym e ∙ ap (objects.get (seen new)) same ∙ inode_gone old new node size goes ready low short in cc)
    | inr d ↦ elim (chunk_or q node (chunks_for size)) [
      | inl h ↦ absurd (let lt = h.1 in let bad : Some v ≡ None = sym e ∙ ap (objects.get (seen new)) h.2 ∙ chunk_gone old new node size goes ready low short h.0 (omega arith) (λ le. absurd (omega arith)) in cc)
      | inr none ↦ sym (ap (λ m. objects.get m q) seen_now ∙ key_kept (seen goes.mid) (inode_key node) q d ∙ goes.chunks.others q ready (λ c from lt. none c lt)) ∙ e
    ]
  ]

  pub goes_fewer : (key : List ℕ) → key ≡ orphan_key node → IsSome (objects.get (seen old) key) → (r : Tx) → r ≡ committed (deleted_in new key) → objects.len (seen r) < objects.len (seen old)
  goes_fewer key is there r done =
      let v = some_of _ there in
      let held = (goes_follows old new node size goes).ready ready in
      let kept : objects.get (seen new) key ≡ Some v.0 =
      others_kept old new node size goes ready low short key (λ e. kinds 111 105 _ _ (λ n. omega arith) (sym is ∙ e)) (λ c lt e. kinds 111 100 _ _ (λ n. omega arith) (sym is ∙ e)) ∙ v.1 in
      let now : seen r ≡ objects.remove (seen new) key = ap seen done ∙ seen_committed (deleted_in new key) (ready_deleted new key held) ∙ seen_deleted new key held in
      let less = removed_fewer (seen new) key v.0 kept in
      let more = no_more (seen old) (seen new) was_there in
      let same = ap (λ (m : Objects). objects.len m) now in
      omega arith
