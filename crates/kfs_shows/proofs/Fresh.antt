-- The objects of a new file system show a root alone.
use Rattle.std.proofs.Common.{◌≡◌, ◌≢◌, ℕ, inl, inr, refl, sym, ◌∙◌, ap, subst, arith, List, [], Some, None}
use Rattle.std.specs.Option.{option_map}
use Rattle.std.specs.FinMap as objects
use Rattle.kv_device.specs.Bytes.{bytes_cmp}
use Rattle.kv_device.specs.Objects.{Objects}
use Rattle.kfs_objects.specs.Keys.{super_key, inode_key, entry_key, chunk_key, orphan_key, IsObjectKey, is_inode, is_super}
use Rattle.kfs_objects.specs.Records.{entry_value, super_value, inode_value}
use Rattle.kfs_model.specs.Tree.{Tree, root_alone, node_of}
pub use Rattle.kfs_laws.proofs.RootAlone.{not_root, root_is_tree}
use Rattle.kfs_laws.proofs.RootAlone.{root_below, root_others}
use Rattle.kfs_shows.specs.Shows.{Shows, ShowsTree, ShowsChunk, inode_of}
use Rattle.kfs_shows.proofs.Lookups.{key_put, key_other, decide_number, decide_bytes}
use Rattle.kfs_shows.proofs.KeysApart.{kinds, same_inode}

-- the super is no part of the tree
pub super_kept : (m : Objects) (t : Tree) (value : List ℕ) → ShowsTree m t → ShowsTree (objects.insert m super_key value) t
super_kept m t value shows =
    let other : (q : List ℕ) → q ≢ super_key → objects.get (objects.insert m super_key value) q ≡ objects.get m q = λ q d. key_other m super_key value q d in
    record {
      inodes = λ n lt. other (inode_key n) (kinds 105 115 _ _ (λ e. omega arith)) ∙ shows.inodes n lt;
      entries = λ q n x e short. other (entry_key n x) (kinds 101 115 _ _ (λ e. omega arith)) ∙ shows.entries q n x e short;
      no_entries = λ n x lt short none. other (entry_key n x) (kinds 101 115 _ _ (λ e. omega arith)) ∙ shows.no_entries n x lt short none;
      chunks = λ n chunk lt lc. subst (λ o. ShowsChunk o (node_of t n) chunk) (sym (other (chunk_key n chunk) (kinds 100 115 _ _ (λ e. omega arith)))) (shows.chunks n chunk lt lc);
      orphans = λ n x lt there none. other (orphan_key n) (kinds 111 115 _ _ (λ e. omega arith)) ∙ shows.orphans n x lt there none;
      named = λ q n e. other (orphan_key n) (kinds 111 115 _ _ (λ e. omega arith)) ∙ shows.named q n e;
      no_orphans = λ n lt e. other (orphan_key n) (kinds 111 115 _ _ (λ e. omega arith)) ∙ shows.no_orphans n lt e;
      only = λ key v e. elim (decide_bytes key super_key) [
        | inl is ↦ subst IsObjectKey (sym is) is_super
        | inr d ↦ shows.only key v (sym (other key d) ∙ e)
      ];
    }

pub with_super : (m : Objects) (t : Tree) (k : ℕ) → ShowsTree m t → Shows (objects.insert m super_key (super_value k t.next)) t k
with_super m t k shows = record { tree = super_kept m t (super_value k t.next) shows; head = key_put m super_key (super_value k t.next) }

abbrev pub root_objects : Objects
root_objects = objects.insert objects.empty (inode_key 1) (inode_value 1 0)

-- what a format writes
abbrev pub first_objects : Objects
first_objects = objects.insert root_objects super_key (super_value 0 2)

at_root : objects.get root_objects (inode_key 1) ≡ Some (inode_value 1 0)
at_root = key_put objects.empty (inode_key 1) (inode_value 1 0)

no_object : (q : List ℕ) → q ≢ inode_key 1 → objects.get root_objects q ≡ None
no_object q d = key_other objects.empty (inode_key 1) (inode_value 1 0) q d ∙ objects.get-empty bytes_cmp q

root_shows : ShowsTree root_objects root_alone
root_shows = record {
  inodes = λ n lt. elim (decide_number n 1) [
    | inl is ↦ ap (λ k. objects.get root_objects (inode_key k)) is ∙ at_root ∙ sym (ap (option_map inode_of) (ap (node_of root_alone) is))
    | inr d ↦ no_object (inode_key n) (λ e. d (same_inode n 1 lt (omega arith) e)) ∙ sym (ap (option_map inode_of) (root_others n d))
  ];
  entries = λ q n x e short. no_object (entry_key n x) (kinds 101 105 _ _ (λ e. omega arith)) ∙ sym (ap (option_map entry_value) (root_below q x));
  no_entries = λ n x lt short none. no_object (entry_key n x) (kinds 101 105 _ _ (λ e. omega arith));
  chunks = λ n chunk lt lc. subst (λ o. ShowsChunk o (node_of root_alone n) chunk) (sym (no_object (chunk_key n chunk) (kinds 100 105 _ _ (λ e. omega arith)))) (elim (decide_number n 1) [
    | inl is ↦ subst (λ o. ShowsChunk None o chunk) (sym (ap (node_of root_alone) is)) refl
    | inr d ↦ subst (λ o. ShowsChunk None o chunk) (sym (root_others n d)) refl
  ]);
  orphans = λ n x lt there none. elim (decide_number n 1) [
    | inl is ↦ absurd (none [] (ap Some (sym is)))
    | inr d ↦ absurd (let t : None ≡ Some x = sym (root_others n d) ∙ there in cc)
  ];
  named = λ q n e. no_object (orphan_key n) (kinds 111 105 _ _ (λ e. omega arith));
  no_orphans = λ n lt e. no_object (orphan_key n) (kinds 111 105 _ _ (λ e. omega arith));
  only = λ key value e. elim (decide_bytes key (inode_key 1)) [
    | inl is ↦ subst IsObjectKey (sym is) (is_inode 1 (omega arith))
    | inr d ↦ absurd (let t : None ≡ Some value = sym (no_object key d) ∙ e in cc)
  ];
}

pub first_shows : Shows first_objects root_alone 0
first_shows = with_super root_objects root_alone 0 root_shows
