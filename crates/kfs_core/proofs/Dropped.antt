-- What is left when a node's chunks, inode and orphan object are deleted.
use Rattle.std.proofs.Common.{◌≡◌, ◌≢◌, ℕ, ◌<◌, ◌≤◌, ◌+◌, ◌^◌, ◌⊎◌, inl, inr, refl, sym, ◌∙◌, ap, subst, arith, List, length, Option, Some, None, unwrap_or}
use Rattle.std.specs.FinMap as objects
use Rattle.std.specs.Option.{option_map, option_and_then}
use Rattle.std.proofs.lemmas.List.{length-set}
use Rattle.std.proofs.lemmas.Option.{same_Some}
use Rattle.kv_device.specs.declared.fault.DeviceFault.{DeviceFault}
use Rattle.kv_device.specs.Machine.{Machine, changes_of}
use Rattle.kv_device.specs.Objects.{Objects}
use Rattle.kfs_objects.specs.Keys.{inode_key, chunk_key, orphan_key}
use Rattle.kfs_objects.specs.Records.{read_inode}
use Rattle.kfs_model.specs.declared.Node.{Node}
use Rattle.kfs_model.specs.declared.Node.TheVariants.{Dir, File}
use Rattle.kfs_model.specs.Tree.{Tree, IsTree, node_of}
use Rattle.kfs_shows.specs.Shows.{ShowsTree, ShowsChunk, inode_of}
use Rattle.kfs_shows.specs.Laws.{DropsNode}
use Rattle.kfs_shows.proofs.Lookups.{key_removed, key_kept}
use Rattle.kfs_shows.proofs.KeysApart.{kinds, same_chunk}
use Rattle.kfs_tx.specs.Tx.{Tx, IsReady, seen, deleted_in}
use Rattle.kfs_tx.proofs.Seeing.{ready_deleted, seen_deleted, keys_deleted}
use Rattle.kfs_tx.proofs.Falling.{delete_falls, only_memory_falls}
use Rattle.kfs_file.specs.Contents.{FailsWithin, RemoveFault, ChangesAtMost, pending_of}
use Rattle.kfs_core.specs.Flat.{inode_in}
use Rattle.kfs_core.specs.Removing.{Goes, chunks_for}
use Rattle.kfs_core.proofs.Ways.{kind_of, read_inode_of}

-- a deletion that failed
pub deletion_fails : (r : Tx) (key : List ℕ) (fault : DeviceFault) (new : Machine) → RemoveFault r key fault new → FailsWithin r 1 fault new
deletion_fails r key fault new h = record {
  cause = h.1;
  fallen = λ ready room. elim (h.0) [
    | inl none ↦ only_memory_falls r new fault none.0 none.1
    | inr device ↦ delete_falls r key fault new ready (omega arith) device
  ];
}

-- what a tx keeps over deletions
pub record Follows (old new : Tx) (most : ℕ) : Type 0 where
  pub ready : IsReady old → IsReady new
  pub few : ChangesAtMost old most new
  pub same : new ≡ pending_of new old
  pub slots : length new.machine.pending ≡ length old.machine.pending

pub follows_deleted : (old mid : Tx) (key : List ℕ) (most : ℕ) → Follows old mid most → Follows old (deleted_in mid key) (most + 1)
follows_deleted old mid key most h = record {
  ready = λ r. ready_deleted mid key (h.ready r);
  few = λ r. let a = h.few r in let b = keys_deleted mid key (h.ready r) in omega arith;
  same = ap (λ (r : Tx). record r { machine = record r.machine { pending = (deleted_in mid key).machine.pending } }) h.same;
  slots = length-set mid.machine.pending mid.id (Some (objects.insert (unwrap_or (changes_of mid.machine mid.id) objects.empty) key None)) ∙ h.slots;
}

pub goes_follows : (old new : Tx) (node size : ℕ) → Goes old node size new → Follows old new (chunks_for size + 1)
goes_follows old new node size h = subst (λ (r : Tx). Follows old r (chunks_for size + 1)) (sym h.inode)
    (follows_deleted old h.mid (inode_key node) (chunks_for size) (record { ready = h.chunks.ready; few = h.few; same = h.chunks.same; slots = h.chunks.slots }))

-- the objects after a node went
module _ (old new : Tx) (node size : ℕ) (goes : Goes old node size new) (ready : IsReady old) (low : node < 2 ^ 64) (short : size ≤ 2 ^ 20) where
  seen_now : seen new ≡ objects.remove (seen goes.mid) (inode_key node)
  seen_now = ap seen goes.inode ∙ seen_deleted goes.mid (inode_key node) (goes.chunks.ready ready)

  pub inode_gone : objects.get (seen new) (inode_key node) ≡ None
  inode_gone = ap (λ m. objects.get m (inode_key node)) seen_now ∙ key_removed (seen goes.mid) (inode_key node)

  chunk_kept : (c : ℕ) → objects.get (seen new) (chunk_key node c) ≡ objects.get (seen goes.mid) (chunk_key node c)
  chunk_kept c = ap (λ m. objects.get m (chunk_key node c)) seen_now ∙ key_kept (seen goes.mid) (inode_key node) (chunk_key node c) (kinds 100 105 _ _ (λ e. omega arith))

  side : (c : ℕ) → (c < chunks_for size) ⊎ (chunks_for size ≤ c)
  side c = grind arith

  pub chunk_gone : (c : ℕ) → c < 2 ^ 32 → (chunks_for size ≤ c → objects.get (seen old) (chunk_key node c) ≡ None) → objects.get (seen new) (chunk_key node c) ≡ None
  chunk_gone c lt past = chunk_kept c ∙ elim (side c) [
    | inl less ↦ goes.chunks.gone c ready (omega arith) less
    | inr more ↦ goes.chunks.others (chunk_key node c) ready (λ d from to e. let same = (same_chunk node node c d low low lt (omega arith) e).1 in omega arith) ∙ past more
  ]

  pub others_kept : (q : List ℕ) → q ≢ inode_key node → ((c : ℕ) → c < 2 ^ 32 → q ≢ chunk_key node c) → objects.get (seen new) q ≡ objects.get (seen old) q
  others_kept q d f = ap (λ m. objects.get m q) seen_now ∙ key_kept (seen goes.mid) (inode_key node) q d ∙ goes.chunks.others q ready (λ c from to e. f c (omega arith) e)

-- no chunk object lies past a file's end
pub none_past : (m : Objects) (t : Tree) (n : ℕ) (x : Node) (kind size c : ℕ) → IsTree t → ShowsTree m t → n < 2 ^ 64 → node_of t n ≡ Some x → inode_in m n ≡ Some (kind, size) → c < 2 ^ 32 → chunks_for size ≤ c → objects.get m (chunk_key n c) ≡ None
none_past m t n x kind size c tree shows low is inode lt past = by x is (objects.get m (chunk_key n c)) refl (subst (λ o. ShowsChunk (objects.get m (chunk_key n c)) o c) is (shows.chunks n c low lt))
  where
    read : (y : Node) → node_of t n ≡ Some y → (kind, size) ≡ kind_of y
    read y e = same_Some _ _ (sym inode ∙ ap (option_and_then read_inode) (shows.inodes n low ∙ ap (option_map inode_of) e) ∙ read_inode_of y (λ bytes f. tree.lengths n bytes (e ∙ ap Some f)))

    by : (y : Node) → node_of t n ≡ Some y → (o : Option (List ℕ)) → objects.get m (chunk_key n c) ≡ o → ShowsChunk (objects.get m (chunk_key n c)) (Some y) c → objects.get m (chunk_key n c) ≡ None
    by Dir e o f h = h
    by (File bytes) e None f h = f
    by (File bytes) e (Some piece) f h =
        let within = subst (λ (p : Option (List ℕ)). ShowsChunk p (Some (File bytes)) c) f h in
        let long : size ≡ length bytes = ap (λ (p : ℕ × ℕ). p.1) (read (File bytes) e) in
        let a = within.within in
        absurd (omega (arith, a.0, a.2))

-- a node's objects are dropped, its orphan object with them
pub drops : (old new : Tx) (node size : ℕ) → Goes old node size new → IsReady old → node < 2 ^ 64 → size ≤ 2 ^ 20 → ((c : ℕ) → c < 2 ^ 32 → chunks_for size ≤ c → objects.get (seen old) (chunk_key node c) ≡ None) → DropsNode (seen old) (seen (deleted_in new (orphan_key node))) node
drops old new node size goes ready low short past = record {
  inode = kept (inode_key node) (kinds 105 111 _ _ (λ e. omega arith)) ∙ inode_gone old new node size goes ready low short;
  orphan = ap (λ m. objects.get m (orphan_key node)) now ∙ key_removed (seen new) (orphan_key node);
  chunks = λ c lt. kept (chunk_key node c) (kinds 100 111 _ _ (λ e. omega arith)) ∙ chunk_gone old new node size goes ready low short c lt (past c lt);
  others = λ q d f g. kept q f ∙ others_kept old new node size goes ready low short q d g;
}
  where
    now : seen (deleted_in new (orphan_key node)) ≡ objects.remove (seen new) (orphan_key node)
    now = seen_deleted new (orphan_key node) ((goes_follows old new node size goes).ready ready)

    kept : (q : List ℕ) → q ≢ orphan_key node → objects.get (seen (deleted_in new (orphan_key node))) q ≡ objects.get (seen new) q
    kept q d = ap (λ m. objects.get m q) now ∙ key_kept (seen new) (orphan_key node) q d
