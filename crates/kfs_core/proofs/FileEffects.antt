-- What a write leaves: the objects show the tree with the new content.
use Rattle.std.proofs.Common.{◌≡◌, ◌≢◌, ℕ, ◌<◌, ◌≤◌, ◌+◌, ◌-◌, ◌^◌, sym, ◌∙◌, ap, subst, arith, List, length, Some}
use Rattle.std.specs.FinMap as objects
use Rattle.kfs_objects.specs.Keys.{inode_key, chunk_key}
use Rattle.kfs_objects.specs.Records.{inode_value}
use Rattle.kfs_model.specs.declared.Node.TheVariants.{File}
use Rattle.kfs_model.specs.Tree.{Tree, charge, chunks, with_node, written, greatest_length, IsTree, node_of}
use Rattle.kfs_model.specs.Change.{spanned}
use Rattle.kfs_model.proofs.Written.{length_written}
use Rattle.kfs_model.proofs.Fits.{charge_written}
use Rattle.kfs_shows.specs.Shows.{ShowsTree, IsPiece}
use Rattle.kfs_shows.specs.Laws.{PutsContent}
use Rattle.kfs_shows.proofs.Content.{still_tree, still_shows}
use Rattle.kfs_shows.proofs.KeysApart.{kinds}
use Rattle.kfs_shows.proofs.Lookups.{key_put, key_other}
use Rattle.kfs_tx.specs.Tx.{Tx, IsReady, SameBounds, seen, changed_keys}
use Rattle.kfs_tx.proofs.Seeing.{ready_put, seen_put, keys_put}
use Rattle.kfs_file.specs.Contents.{touched}
use Rattle.kfs_core.specs.Stands.{Stands}
use Rattle.kfs_core.specs.Files.{PutsBytes, with_length}
use Rattle.kfs_core.specs.Room.{chunks_for, grown}
use Rattle.kfs_core.proofs.FileJudges.{node_low, holds_file}
use Rattle.kfs_core.proofs.Fitting.{chunks_written}

-- the chunks of a write are those that hold its bytes
pub spanned_is : (p j : ℕ) → 0 < j → touched p j ≡ spanned p j
spanned_is p j some = omega arith

-- the length after a write
pub grown_is : (b : List ℕ) (p : ℕ) (given : List ℕ) → length (written b p given) ≡ grown (length b) p (length given)
grown_is b p given = let h = length_written b p given in omega arith

-- what putting the bytes leaves of a tx's numbers
pub record SameNumbers (old new : Tx) : Type 0 where
  pub changes : new.changes ≡ old.changes
  pub next : new.next ≡ old.next
  pub since : new.since ≡ old.since
  pub weight : new.weight ≡ old.weight
  pub up : new.machine.up ≡ old.machine.up
  pub stable : new.machine.stable ≡ old.machine.stable
  pub cuts : new.machine.cuts ≡ old.machine.cuts
  pub faults : new.machine.faults ≡ old.machine.faults
  pub bounds : SameBounds old.machine new.machine

module _ (old put : Tx) (n p : ℕ) (given : List ℕ) (puts : PutsBytes old n p given put) where
  -- the tx stays but for its pending changes
  pub put_numbers : (size : ℕ) → SameNumbers old (with_length put n size)
  put_numbers size = let e = puts.writes.same in record {
    changes = ap (λ (r : Tx). r.changes) e;
    next = ap (λ (r : Tx). r.next) e;
    since = ap (λ (r : Tx). r.since) e;
    weight = ap (λ (r : Tx). r.weight) e;
    up = ap (λ (r : Tx). r.machine.up) e;
    stable = ap (λ (r : Tx). r.machine.stable) e;
    cuts = ap (λ (r : Tx). r.machine.cuts) e;
    faults = ap (λ (r : Tx). r.machine.faults) e;
    bounds = record {
      most_cuts = ap (λ (r : Tx). r.machine.most_cuts) e;
      most_faults = ap (λ (r : Tx). r.machine.most_faults) e;
      room_keys = ap (λ (r : Tx). r.machine.room_keys) e;
      room_pages = ap (λ (r : Tx). r.machine.room_pages) e;
    };
  }

  module _ (ready : IsReady old) where
    pub put_ready : IsReady put
    put_ready = puts.writes.ready ready

    pub length_ready : (size : ℕ) → IsReady (with_length put n size)
    length_ready size = ready_put put (inode_key n) (inode_value 2 size) put_ready

    pub length_keys : (size : ℕ) → changed_keys (with_length put n size) ≤ changed_keys old + touched p (length given) + 1
    length_keys size = let a = puts.keys ready in let b = keys_put put (inode_key n) (inode_value 2 size) put_ready in omega arith

    -- with the super one key more, and the weight counts that
    pub length_few : (size weight : ℕ) → 0 < length given → changed_keys old ≤ weight → changed_keys (with_length put n size) + 1 ≤ weight + (2 + spanned p (length given))
    length_few size weight some few = let a = length_keys size in let b = spanned_is p (length given) some in omega arith

    length_sees : (size : ℕ) → seen (with_length put n size) ≡ objects.insert (seen put) (inode_key n) (inode_value 2 size)
    length_sees size = seen_put put (inode_key n) (inode_value 2 size) put_ready

    module _ (t : Tree) (stands : Stands (seen old) t) (bytes : List ℕ) (file : node_of t n ≡ Some (File bytes)) (fits : p + length given ≤ greatest_length) where
      abbrev pub new_bytes : List ℕ
      new_bytes = written bytes p given

      abbrev pub new_tree : Tree
      new_tree = with_node t n (File new_bytes)

      abbrev pub new_run : Tx
      new_run = with_length put n (grown (length bytes) p (length given))

      low : n < 2 ^ 64
      low = node_low (seen old) t stands n (File bytes) file

      pub new_short : length new_bytes ≤ greatest_length
      new_short = let h = stands.tree.lengths n bytes file in let g = grown_is bytes p given in omega arith

      sees_other : (q : List ℕ) → q ≢ inode_key n → objects.get (seen new_run) q ≡ objects.get (seen put) q
      sees_other q d = ap (λ m. objects.get m q) (length_sees (grown (length bytes) p (length given))) ∙ key_other (seen put) (inode_key n) (inode_value 2 (grown (length bytes) p (length given))) q d

      puts_content : PutsContent (seen old) (seen new_run) n new_bytes
      puts_content = record {
        inode = ap (λ m. objects.get m (inode_key n)) (length_sees (grown (length bytes) p (length given))) ∙ key_put (seen put) (inode_key n) (inode_value 2 (grown (length bytes) p (length given)))
            ∙ ap (λ l. Some (inode_value 2 l)) (sym (grown_is bytes p given));
        pieces = λ c lt. subst (λ o. IsPiece o new_bytes c) (sym (sees_other (chunk_key n c) (kinds 100 105 _ _ (λ e. omega arith))))
            ((puts.writes.holds bytes ready low fits (holds_file (seen old) t stands n bytes file)).pieces c lt);
        others = λ q d other. sees_other q d ∙ puts.writes.others q ready other;
      }

      pub new_is_tree : IsTree new_tree
      new_is_tree = still_tree t stands.tree n bytes new_bytes file new_short

      pub new_shows : ShowsTree (seen new_run) new_tree
      new_shows = still_shows t stands.tree n bytes new_bytes file (seen old) (seen new_run) stands.shows low puts_content

-- ---- what it takes of the room

module _ (t : Tree) (n : ℕ) (bytes : List ℕ) (tree : IsTree t) (file : node_of t n ≡ Some (File bytes)) (p : ℕ) (given : List ℕ) where
  pub charge_after : charge t + (chunks_for (grown (length bytes) p (length given)) - chunks_for (length bytes)) ≡ charge (with_node t n (File (written bytes p given)))
  charge_after =
      let e = charge_written t n bytes (written bytes p given) tree.sorted_nodes file in
      let g = grown_is bytes p given in
      omega arith

  pub chunks_after : chunks t + (chunks_for (grown (length bytes) p (length given)) - chunks_for (length bytes)) ≡ chunks (with_node t n (File (written bytes p given)))
  chunks_after =
      let e = chunks_written t n bytes (written bytes p given) tree.sorted_nodes file in
      let g = grown_is bytes p given in
      omega arith
