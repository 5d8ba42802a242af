-- A file's new objects show the tree with its new content.
use Rattle.std.proofs.Common.{◌≡◌, ◌≢◌, ℕ, ◌<◌, ◌≤◌, ◌^◌, inl, inr, sym, ◌∙◌, ap, subst, arith, List, length, Some, None}
use Rattle.std.specs.Option.{option_map}
use Rattle.std.specs.FinMap as objects
use Rattle.kv_device.specs.Objects.{Objects}
use Rattle.kfs_objects.specs.Keys.{inode_key, entry_key, chunk_key, orphan_key, IsObjectKey, is_inode, is_chunk}
use Rattle.kfs_model.specs.declared.Node.{Node}
use Rattle.kfs_model.specs.declared.Node.TheVariants.{Dir, File}
use Rattle.kfs_model.specs.Tree.{Tree, with_node, greatest_length, IsTree, node_of}
use Rattle.kfs_shows.specs.Shows.{ShowsTree, ShowsChunk, IsPiece, inode_of}
use Rattle.kfs_shows.specs.Laws.{PutsContent}
use Rattle.kfs_laws.proofs.Making as laws
use Rattle.kfs_shows.proofs.Lookups.{decide_number, decide_bytes}
use Rattle.kfs_shows.proofs.KeysApart.{kinds, same_inode, same_chunk}
use Rattle.kfs_shows.proofs.ChunkKeys.{chunk_of}

module _ (t : Tree) (tree : IsTree t) (n : ℕ) (was bytes : List ℕ) (file : node_of t n ≡ Some (File was)) where
  abbrev now : Tree
  now = with_node t n (File bytes)

  node_here : node_of now n ≡ Some (File bytes)
  node_here = laws.node_here t tree n was bytes file

  node_old : (k : ℕ) → k ≢ n → node_of now k ≡ node_of t k
  node_old = laws.node_other t tree n was bytes file

  pub node_before : (k : ℕ) (x : Node) → node_of now k ≡ Some x → (y : Node) × (node_of t k ≡ Some y)
  node_before = laws.node_before t tree n was bytes file

  pub still_tree : length bytes ≤ greatest_length → IsTree now
  still_tree = laws.content_tree t tree n was bytes file

  module _ (m after : Objects) (shows : ShowsTree m t) (low : n < 2 ^ 64) (puts : PutsContent m after n bytes) where
    entry_same : (p : ℕ) (x : List ℕ) → objects.get after (entry_key p x) ≡ objects.get m (entry_key p x)
    entry_same p x = puts.others (entry_key p x) (kinds 101 105 _ _ (λ e. omega arith)) (λ c lt. kinds 101 100 _ _ (λ e. omega arith))

    orphan_same : (k : ℕ) → objects.get after (orphan_key k) ≡ objects.get m (orphan_key k)
    orphan_same k = puts.others (orphan_key k) (kinds 111 105 _ _ (λ e. omega arith)) (λ c lt. kinds 111 100 _ _ (λ e. omega arith))

    pub still_shows : ShowsTree after now
    still_shows = record {
      inodes = λ k lt. elim (decide_number k n) [
        | inl is ↦ ap (λ j. objects.get after (inode_key j)) is ∙ puts.inode ∙ sym (ap (option_map inode_of) (ap (node_of now) is ∙ node_here))
        | inr other ↦ puts.others (inode_key k) (λ e. other (same_inode k n lt low e)) (λ c lc. kinds 105 100 _ _ (λ e. omega arith)) ∙ shows.inodes k lt ∙ sym (ap (option_map inode_of) (node_old k other))
      ];
      entries = λ q k x e short. entry_same k x ∙ shows.entries q k x e short;
      no_entries = λ k x lt short none. entry_same k x ∙ shows.no_entries k x lt short none;
      chunks = λ k c lk lc. elim (decide_number k n) [
        | inl is ↦ subst (λ o. ShowsChunk (objects.get after (chunk_key k c)) o c) (sym (ap (node_of now) is ∙ node_here))
            (subst (λ (j : ℕ). IsPiece (objects.get after (chunk_key j c)) bytes c) (sym is) (puts.pieces c lc))
        | inr other ↦ subst (λ o. ShowsChunk (objects.get after (chunk_key k c)) o c) (sym (node_old k other))
            (subst (λ o. ShowsChunk o (node_of t k) c) (sym (puts.others (chunk_key k c) (kinds 100 105 _ _ (λ e. omega arith)) (λ d ld e. other (same_chunk k n c d lk low lc ld e).0)))
            (shows.chunks k c lk lc))
      ];
      orphans = λ k x lt there none. let y = node_before k x there in orphan_same k ∙ shows.orphans k y.0 lt y.1 none;
      named = λ q k e. orphan_same k ∙ shows.named q k e;
      no_orphans = λ k lt e. orphan_same k ∙ shows.no_orphans k lt (elim (decide_number k n) [
        | inl is ↦ let bad : Some (File bytes) ≡ None = sym (ap (node_of now) is ∙ node_here) ∙ e in absurd (cc)
        | inr other ↦ sym (node_old k other) ∙ e
      ]);
      only = λ key value e. elim (decide_bytes key (inode_key n)) [
        | inl is ↦ subst IsObjectKey (sym is) (is_inode n low)
        | inr d ↦ elim (chunk_of n key) [
          | inl some ↦ subst IsObjectKey (sym some.2) (is_chunk n some.0 low some.1)
          | inr none ↦ shows.only key value (sym (puts.others key d none) ∙ e)
        ]
      ];
    }
