-- Without a nameless node's objects the map shows the tree without that node.
use Rattle.std.proofs.Common.{◌≡◌, ◌≢◌, ℕ, ◌<◌, ◌≤◌, ◌^◌, ◌==◌, not, cond, true, false, inl, inr, refl, sym, ◌∙◌, ap, subst, arith, List, [], Some, None}
use Rattle.std.specs.Option.{option_map}
use Rattle.std.specs.Ordering.{nat_cmp}
use Rattle.std.specs.FinMap as objects
use Rattle.std.specs.FinMap.{nat_cmp-IsAntisymmetric}
use Rattle.std.specs.FinMap.Entries.{is_sorted-where_key, find-where_key}
use Rattle.std.proofs.lemmas.Bool.Decides.{nat_tests}
use Rattle.kv_device.specs.Objects.{Objects}
use Rattle.kfs_objects.specs.Keys.{inode_key, entry_key, chunk_key, orphan_key, IsObjectKey, is_inode, is_orphan, is_chunk}
use Rattle.kfs_model.specs.declared.Node.{Node}
use Rattle.kfs_model.specs.declared.Node.TheVariants.{File}
use Rattle.kfs_model.specs.Tree.{Tree, IsTree, IsKept, IsNameless, number_at, node_of}
use Rattle.kfs_shows.specs.Shows.{ShowsTree, ShowsChunk, inode_of}
use Rattle.kfs_shows.specs.Laws.{DropsNode, without_node}
use Rattle.kfs_shows.proofs.Lookups.{decide_number, decide_bytes}
use Rattle.kfs_shows.proofs.KeysApart.{kinds, tails, same_inode, same_chunk}
use Rattle.kfs_shows.proofs.ChunkKeys.{chunk_of}
use Rattle.kfs_objects.proofs.KeyLaws.{same64}

module _ (t : Tree) (tree : IsTree t) (n : ℕ) (nameless : IsNameless t n) where
  abbrev now : Tree
  now = without_node t n

  node_is : (k : ℕ) → node_of now k ≡ cond (not (k == n)) (node_of t k) None
  node_is k = find-where_key nat_cmp (λ j. not (j == n)) k (λ x e. ap (λ j. not (j == n)) (sym (nat_cmp-IsAntisymmetric k x e))) t.nodes

  pub node_here : node_of now n ≡ None
  node_here = node_is n ∙ ap (λ b. cond (not b) (node_of t n) None) (let s : (n == n) ≡ true = grind (arith, nat_tests) in s)

  pub node_old : (k : ℕ) → k ≢ n → node_of now k ≡ node_of t k
  node_old k d = node_is k ∙ ap (λ b. cond (not b) (node_of t k) None) (let s : (k == n) ≡ false = grind (arith, nat_tests) in s)

  pub node_before : (k : ℕ) (x : Node) → node_of now k ≡ Some x → (k ≢ n) × (node_of t k ≡ Some x)
  node_before k x e = elim (decide_number k n) [
    | inl is ↦ let bad : Some x ≡ None = sym e ∙ ap (node_of now) is ∙ node_here in absurd (cc)
    | inr other ↦ (other, sym (node_old k other) ∙ e)
  ]

  -- what is named stays
  apart : (q : List (List ℕ)) (k : ℕ) → number_at t q ≡ Some k → k ≢ n
  apart q k e is = nameless q (e ∙ ap Some is)

  pub still_tree : IsTree now
  still_tree = record {
    root = tree.root;
    root_dir = node_old 1 (apart [] 1 tree.root) ∙ tree.root_dir;
    parents = λ q x k e. let m = tree.parents q x k e in (m.0, m.1, node_old m.0 (apart q m.0 m.1) ∙ m.2);
    names = tree.names;
    apart = tree.apart;
    there = λ q k e. let x = tree.there q k e in (x.0, node_old k (apart q k e) ∙ x.1);
    numbers = λ k x e. tree.numbers k x (node_before k x e).1;
    lengths = λ k b e. tree.lengths k b (node_before k (File b) e).1;
    sorted_names = tree.sorted_names;
    sorted_nodes = is_sorted-where_key nat_cmp (λ j. not (j == n)) t.nodes tree.sorted_nodes;
  }

  pub is_kept : IsKept t now
  is_kept = record {
    names = refl;
    next = refl;
    sorted = is_sorted-where_key nat_cmp (λ j. not (j == n)) t.nodes tree.sorted_nodes;
    nodes = λ k. elim (decide_number k n) [
      | inl is ↦ inr (subst (IsNameless t) (sym is) nameless, ap (node_of now) is ∙ node_here)
      | inr other ↦ inl (node_old k other)
    ];
  }

  module _ (m after : Objects) (shows : ShowsTree m t) (low : n < 2 ^ 64) (drops : DropsNode m after n) where
    entry_same : (p : ℕ) (x : List ℕ) → objects.get after (entry_key p x) ≡ objects.get m (entry_key p x)
    entry_same p x = drops.others (entry_key p x) (kinds 101 105 _ _ (λ e. omega arith)) (kinds 101 111 _ _ (λ e. omega arith)) (λ c lt. kinds 101 100 _ _ (λ e. omega arith))

    orphan_same : (k : ℕ) → k < 2 ^ 64 → k ≢ n → objects.get after (orphan_key k) ≡ objects.get m (orphan_key k)
    orphan_same k lt other = drops.others (orphan_key k) (kinds 111 105 _ _ (λ e. omega arith)) (λ e. other (same64 k n lt low (tails _ _ _ _ e))) (λ c lc. kinds 111 100 _ _ (λ e. omega arith))

    orphan_named : (q : List (List ℕ)) (k : ℕ) → number_at t q ≡ Some k → k < 2 ^ 64 → objects.get after (orphan_key k) ≡ None
    orphan_named q k e lt = orphan_same k lt (apart q k e) ∙ shows.named q k e

    pub still_shows : t.next ≤ 2 ^ 64 → ShowsTree after now
    still_shows reach = record {
      inodes = λ k lt. elim (decide_number k n) [
        | inl is ↦ ap (λ j. objects.get after (inode_key j)) is ∙ drops.inode ∙ sym (ap (option_map inode_of) (ap (node_of now) is ∙ node_here))
        | inr other ↦ drops.others (inode_key k) (λ e. other (same_inode k n lt low e)) (kinds 105 111 _ _ (λ e. omega arith)) (λ c lc. kinds 105 100 _ _ (λ e. omega arith)) ∙ shows.inodes k lt ∙ sym (ap (option_map inode_of) (node_old k other))
      ];
      entries = λ q k x e short. entry_same k x ∙ shows.entries q k x e short;
      no_entries = λ k x lt short none. entry_same k x ∙ shows.no_entries k x lt short none;
      chunks = λ k c lk lc. elim (decide_number k n) [
        | inl is ↦ subst (λ o. ShowsChunk (objects.get after (chunk_key k c)) o c) (sym (ap (node_of now) is ∙ node_here))
            (ap (λ j. objects.get after (chunk_key j c)) is ∙ drops.chunks c lc)
        | inr other ↦ subst (λ o. ShowsChunk (objects.get after (chunk_key k c)) o c) (sym (node_old k other))
            (subst (λ o. ShowsChunk o (node_of t k) c) (sym (drops.others (chunk_key k c) (kinds 100 105 _ _ (λ e. omega arith)) (kinds 100 111 _ _ (λ e. omega arith)) (λ d ld e. other (same_chunk k n c d lk low lc ld e).0)))
            (shows.chunks k c lk lc))
      ];
      orphans = λ k x lt there none. let y = node_before k x there in orphan_same k lt y.0 ∙ shows.orphans k x lt y.1 none;
      named = λ q k e. let x = tree.there q k e in let h = (tree.numbers k x.0 x.1).1 in orphan_named q k e (omega arith);
      no_orphans = λ k lt e. elim (decide_number k n) [
        | inl is ↦ ap (λ j. objects.get after (orphan_key j)) is ∙ drops.orphan
        | inr other ↦ orphan_same k lt other ∙ shows.no_orphans k lt (sym (node_old k other) ∙ e)
      ];
      only = λ key value e. elim (decide_bytes key (inode_key n)) [
        | inl is ↦ subst IsObjectKey (sym is) (is_inode n low)
        | inr d ↦ elim (decide_bytes key (orphan_key n)) [
          | inl is ↦ subst IsObjectKey (sym is) (is_orphan n low)
          | inr f ↦ elim (chunk_of n key) [
            | inl some ↦ subst IsObjectKey (sym some.2) (is_chunk n some.0 low some.1)
            | inr none ↦ shows.only key value (sym (drops.others key d f none) ∙ e)
          ]
        ]
      ];
    }
