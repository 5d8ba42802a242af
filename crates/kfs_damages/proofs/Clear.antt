-- Objects in which nothing is damaged stand for a tree.
use Rattle.std.proofs.Common.{◌≡◌, ◌≢◌, ℕ, ◌<◌, ◌≤◌, ◌^◌, ◌&&◌, ◌⊎◌, inl, inr, true, refl, sym, ◌∙◌, ap, subst, arith, List, [], ◌∷◌, ◌++◌, length, Option, Some, None, nat_le}
use Rattle.std.specs.Prelude.{is_some}
use Rattle.std.specs.Option.{option_map}
use Rattle.std.specs.FinMap as objects
use Rattle.std.proofs.lemmas.Bool.Decides.{nat_tests}
use Rattle.std.proofs.lemmas.Option.{same_Some}
use Rattle.kv_device.specs.Objects.{Objects, IsHeld}
use Rattle.kfs_objects.specs.Keys.{inode_key, entry_key, chunk_key, orphan_key}
use Rattle.kfs_objects.specs.Records.{entry_value, orphan_value, inode_value, read_entry}
use Rattle.kfs_model.specs.declared.Node.{Node}
use Rattle.kfs_model.specs.declared.Node.TheVariants.{Dir, File}
use Rattle.kfs_model.specs.Tree.{Place, Name, Tree, Limits, IsTree, IsNameless, IsShort, greatest_length, charge, chunks, named, has_room, number_at, node_of}
use Rattle.kfs_shows.specs.Shows.{Shows, ShowsTree, ShowsChunk, inode_of}
use Rattle.kfs_shows.proofs.Counting.{place_of, place_found, place_none}
use Rattle.kfs_shows.proofs.Once.{from_end}
use Rattle.kfs_damages.specs.Damages as damages
use Rattle.kfs_damages.specs.Damages.{IsEntry, IsNamed, IsClear}
use Rattle.kfs_damages.specs.Laws.{StandFor}
use Rattle.kfs_damages.proofs.Counts.{charge_named, chunks_named}
use Rattle.kfs_damages.proofs.Facts as facts
use Rattle.kfs_damages.proofs.Facts.{named_by, order}
use Rattle.kfs_damages.proofs.Growing.{Comes, Placed, Full, reached_placed}
use Rattle.kfs_damages.proofs.Linking.{places}
use Rattle.kfs_damages.proofs.Nodes.{Shown, nothing, directory, content_is, content, length_content, nodes_below, sorted_below, none_above, piece_is, shown}

-- a place is the root or lies below one
last_of : (q : Place) → (q ≡ []) ⊎ ((r : Place) × (x : Name) × (q ≡ r ++ x ∷ []))
last_of = from_end (λ q. (q ≡ []) ⊎ ((r : Place) × (x : Name) × (q ≡ r ++ x ∷ []))) (inl refl) (λ r x h. inr (r, x, refl))

abbrev bytes_in : Option Node → List ℕ
bytes_in None = []
bytes_in (Some Dir) = []
bytes_in (Some (File bytes)) = bytes

no_dir : (size : ℕ) → ◌≡◌ {A = Option (ℕ × ℕ)} (Some (2, size)) (Some (1, 0)) → ⊥
no_dir size e = let h : ◌≡◌ {A = ℕ} 2 1 = ap (λ (p : ℕ × ℕ). p.0) (same_Some _ _ e) in absurd (omega arith)

is_le : (a b : ℕ) → a ≤ b → nat_le a b ≡ true
is_le a b h = grind (arith, nat_tests)

module _ (k : Limits) (m : Objects) (held : IsHeld m) (clear : IsClear k m) where
  grown : Full m
  grown = places k m held clear

  abbrev tree : Tree
  tree = record { names = grown.names; nodes = nodes_below m clear.head.next; next = clear.head.next }

  root_named : number_at tree [] ≡ Some 1
  root_named = grown.grown.root

  comes : (q : Place) (x : Name) (j : ℕ) → number_at tree (q ++ x ∷ []) ≡ Some j → Comes m grown.names q x j
  comes = grown.grown.from

  -- what comes from an entry is a number
  come_low : (q : Place) (x : Name) (j : ℕ) → Comes m grown.names q x j → j < 2 ^ 64
  come_low q x j c = let s = facts.sound k m held clear c.parent x c.value c.entry in subst (λ n. n < 2 ^ 64) (same_Some _ _ (sym s.reads ∙ c.reads)) s.low

  number_low : (q : Place) (j : ℕ) → number_at tree q ≡ Some j → j < 2 ^ 64
  number_low q j e = elim (last_of q) [
    | inl is ↦ let one : j ≡ 1 = same_Some _ _ (sym e ∙ ap (number_at tree) is ∙ root_named) in omega arith
    | inr is ↦ come_low is.0 is.1 j (comes is.0 is.1 j (sym (ap (number_at tree) is.2) ∙ e))
  ]

  named_placed : (j : ℕ) → j < 2 ^ 64 → IsNamed m j → Placed grown.names j
  named_placed j lt name = by (place_of grown.names j) refl
    where
      by : (o : Option Place) → place_of grown.names j ≡ o → Placed grown.names j
      by (Some q) f = (q, place_found grown.names j q grown.grown.sorted f)
      by None f = absurd (clear.entries j lt (damages.apart name (λ reached. let at = reached_placed m grown j reached in place_none grown.names j at.0 f at.1)))

  -- an entry's parent has a place, and what it names lies below
  entry_placed : (p : ℕ) (x : Name) (v : List ℕ) (j : ℕ) → IsEntry m p x v → read_entry v ≡ Some j → j < 2 ^ 64 → (q : Place) × (number_at tree q ≡ Some p) × (number_at tree (q ++ x ∷ []) ≡ Some j)
  entry_placed p x v j entry reads lt = by (named_placed j lt (named_by m p x v j entry reads))
    where
      by : Placed grown.names j → (q : Place) × (number_at tree q ≡ Some p) × (number_at tree (q ++ x ∷ []) ≡ Some j)
      by (r, e) = elim (last_of r) [
        | inl is ↦ absurd (facts.not_root k m held clear p x v j entry reads (same_Some _ _ (sym e ∙ ap (number_at tree) is ∙ root_named)))
        | inr is ↦
            let here : number_at tree (is.0 ++ is.1 ∷ []) ≡ Some j = sym (ap (number_at tree) is.2) ∙ e in
            let c = comes is.0 is.1 j here in
            let same = facts.one_name k m held clear c.parent is.1 c.value p x v j lt c.entry entry c.reads reads in
            (is.0, c.at ∙ ap Some same.0, ap (λ y. number_at tree (is.0 ++ y ∷ [])) (sym same.1) ∙ here)
      ]

  -- no two places name one node
  apart : (p q : Place) (n : ℕ) → number_at tree p ≡ Some n → number_at tree q ≡ Some n → p ≡ q
  apart p = from_end (λ p. (q : Place) (n : ℕ) → number_at tree p ≡ Some n → number_at tree q ≡ Some n → p ≡ q) start more p
    where
      never : (q : Place) (x : Name) (n : ℕ) → number_at tree (q ++ x ∷ []) ≡ Some n → number_at tree [] ≡ Some n → ⊥
      never q x n e f = let c = comes q x n e in facts.not_root k m held clear c.parent x c.value n c.entry c.reads (same_Some _ _ (sym f ∙ root_named))

      start : (q : Place) (n : ℕ) → number_at tree [] ≡ Some n → number_at tree q ≡ Some n → [] ≡ q
      start q n e f = elim (last_of q) [
        | inl is ↦ sym is
        | inr is ↦ absurd (never is.0 is.1 n (sym (ap (number_at tree) is.2) ∙ f) e)
      ]

      more : (xs : Place) (x : Name) → ((q : Place) (n : ℕ) → number_at tree xs ≡ Some n → number_at tree q ≡ Some n → xs ≡ q) → (q : Place) (n : ℕ) → number_at tree (xs ++ x ∷ []) ≡ Some n → number_at tree q ≡ Some n → xs ++ x ∷ [] ≡ q
      more xs x shorter q n e f = elim (last_of q) [
        | inl is ↦ absurd (never xs x n e (sym (ap (number_at tree) is) ∙ f))
        | inr is ↦
            let a = comes xs x n e in
            let b = comes is.0 is.1 n (sym (ap (number_at tree) is.2) ∙ f) in
            let same = facts.one_name k m held clear a.parent x a.value b.parent is.1 b.value n (come_low xs x n a) a.entry b.entry a.reads b.reads in
            let up = shorter is.0 a.parent a.at (b.at ∙ ap Some (sym same.0)) in
            (λ i. up i ++ same.1 i ∷ []) ∙ sym is.2
      ]

  -- ---- nodes

  seen : (n : ℕ) → n < 2 ^ 64 → Shown m clear.head.next n (node_of tree n)
  seen = shown k m held clear

  dir_node : (n : ℕ) → n < 2 ^ 64 → damages.inode_of m n ≡ Some (1, 0) → node_of tree n ≡ Some Dir
  dir_node n lt is = by (seen n lt)
    where
      by : Shown m clear.head.next n (node_of tree n) → node_of tree n ≡ Some Dir
      by (nothing e f g) = let bad : None ≡ Some (1, 0) = sym f ∙ is in absurd (cc)
      by (directory e f g low high) = g
      by (content_is size e f g short low high) = absurd (no_dir size (sym f ∙ is))

  node_there : (n : ℕ) → n < 2 ^ 64 → objects.get m (inode_key n) ≢ None → (node : Node) × (node_of tree n ≡ Some node)
  node_there n lt d = by (seen n lt)
    where
      by : Shown m clear.head.next n (node_of tree n) → (node : Node) × (node_of tree n ≡ Some node)
      by (nothing e f g) = absurd (d e)
      by (directory e f g low high) = (Dir, g)
      by (content_is size e f g short low high) = (File (content m n size), g)

  -- a node that is there has an inode
  inode_there : (n : ℕ) (node : Node) → n < 2 ^ 64 → node_of tree n ≡ Some node → (value : List ℕ) × (objects.get m (inode_key n) ≡ Some value)
  inode_there n node lt is = by (seen n lt)
    where
      by : Shown m clear.head.next n (node_of tree n) → (value : List ℕ) × (objects.get m (inode_key n) ≡ Some value)
      by (nothing e f g) = let bad : None ≡ Some node = sym g ∙ is in absurd (cc)
      by (directory e f g low high) = (inode_value 1 0, e)
      by (content_is size e f g short low high) = (inode_value 2 size, e)

  node_low : (n : ℕ) (node : Node) → node_of tree n ≡ Some node → n < 2 ^ 64
  node_low n node e = elim (order n clear.head.next) [
    | inl lt ↦ let l = clear.head.low in omega arith
    | inr le ↦ absurd (let bad : None ≡ Some node = sym (none_above m clear.head.next n le) ∙ e in cc)
  ]

  numbers : (n : ℕ) (node : Node) → node_of tree n ≡ Some node → (1 ≤ n) × (n < clear.head.next)
  numbers n node is = by (seen n (node_low n node is))
    where
      by : Shown m clear.head.next n (node_of tree n) → (1 ≤ n) × (n < clear.head.next)
      by (nothing e f g) = let bad : None ≡ Some node = sym g ∙ is in absurd (cc)
      by (directory e f g low high) = (low, high)
      by (content_is size e f g short low high) = (low, high)

  lengths : (n : ℕ) (bytes : List ℕ) → node_of tree n ≡ Some (File bytes) → length bytes ≤ greatest_length
  lengths n bytes is = by (seen n (node_low n (File bytes) is))
    where
      by : Shown m clear.head.next n (node_of tree n) → length bytes ≤ greatest_length
      by (nothing e f g) = let bad : None ≡ Some (File bytes) = sym g ∙ is in absurd (cc)
      by (directory e f g low high) = let bad : Some Dir ≡ Some (File bytes) = sym g ∙ is in absurd (cc)
      by (content_is size e f g short low high) =
          let same : content m n size ≡ bytes = ap (λ o. bytes_in o) (sym g ∙ is) in
          subst (λ l. l ≤ greatest_length) (sym (length_content m n size) ∙ ap (λ (l : List ℕ). length l) same) short

  is_tree : IsTree tree
  is_tree = record {
    root = root_named;
    root_dir = dir_node 1 (omega arith) (facts.root_is k m held clear);
    parents = λ q x n e. let c = comes q x n e in (c.parent, c.at, dir_node c.parent c.entry.low (facts.sound k m held clear c.parent x c.value c.entry).dir);
    names = λ q x n e. let c = comes q x n e in (facts.sound k m held clear c.parent x c.value c.entry).named;
    apart = apart;
    there = there;
    numbers = numbers;
    lengths = lengths;
    sorted_names = grown.grown.sorted;
    sorted_nodes = sorted_below m clear.head.next;
  }
    where
      there : (q : Place) (n : ℕ) → number_at tree q ≡ Some n → (node : Node) × (node_of tree n ≡ Some node)
      there q n e = elim (last_of q) [
        | inl is ↦ (Dir, ap (node_of tree) (same_Some _ _ (sym e ∙ ap (number_at tree) is ∙ root_named)) ∙ dir_node 1 (omega arith) (facts.root_is k m held clear))
        | inr is ↦
            let c = comes is.0 is.1 n (sym (ap (number_at tree) is.2) ∙ e) in
            node_there n (come_low is.0 is.1 n c) (facts.has_inode k m held clear c.parent is.1 c.value n (come_low is.0 is.1 n c) c.entry c.reads)
      ]

  -- ---- what the objects show

  inodes : (n : ℕ) → n < 2 ^ 64 → objects.get m (inode_key n) ≡ option_map inode_of (node_of tree n)
  inodes n lt = by (seen n lt)
    where
      by : Shown m clear.head.next n (node_of tree n) → objects.get m (inode_key n) ≡ option_map inode_of (node_of tree n)
      by (nothing e f g) = e ∙ sym (ap (option_map inode_of) g)
      by (directory e f g low high) = e ∙ sym (ap (option_map inode_of) g)
      by (content_is size e f g short low high) = e ∙ ap (λ n. Some (inode_value 2 n)) (sym (length_content m n size)) ∙ sym (ap (option_map inode_of) g)

  entries : (q : Place) (n : ℕ) (x : Name) → number_at tree q ≡ Some n → IsShort x → objects.get m (entry_key n x) ≡ option_map entry_value (number_at tree (q ++ x ∷ []))
  entries q n x e short = by (objects.get m (entry_key n x)) refl
    where
      absent : objects.get m (entry_key n x) ≡ None → (o : Option ℕ) → number_at tree (q ++ x ∷ []) ≡ o → None ≡ option_map entry_value o
      absent g None h = refl
      absent g (Some j) h =
          let c = comes q x j h in
          let bad : None ≡ Some c.value = sym g ∙ ap (λ p. objects.get m (entry_key p x)) (same_Some _ _ (sym e ∙ c.at)) ∙ c.entry.there in
          absurd (cc)

      by : (o : Option (List ℕ)) → objects.get m (entry_key n x) ≡ o → objects.get m (entry_key n x) ≡ option_map entry_value (number_at tree (q ++ x ∷ []))
      by None g = g ∙ absent g (number_at tree (q ++ x ∷ [])) refl
      by (Some value) g =
          let entry : IsEntry m n x value = record { low = number_low q n e; short = short; there = g } in
          let s = facts.sound k m held clear n x value entry in
          let at = entry_placed n x value s.node entry s.reads s.low in
          let same = apart at.0 q n at.1 e in
          g ∙ ap Some s.spelled ∙ sym (ap (option_map entry_value) (ap (λ r. number_at tree (r ++ x ∷ [])) (sym same) ∙ at.2))

  no_entries : (n : ℕ) (x : Name) → n < 2 ^ 64 → IsShort x → IsNameless tree n → objects.get m (entry_key n x) ≡ None
  no_entries n x lt short nameless = by (objects.get m (entry_key n x)) refl
    where
      by : (o : Option (List ℕ)) → objects.get m (entry_key n x) ≡ o → o ≡ None
      by None g = refl
      by (Some value) g =
          let entry : IsEntry m n x value = record { low = lt; short = short; there = g } in
          let s = facts.sound k m held clear n x value entry in
          let at = entry_placed n x value s.node entry s.reads s.low in
          absurd (nameless at.0 at.1)

  no_chunk : (n c : ℕ) → n < 2 ^ 64 → c < 2 ^ 32 → ((size : ℕ) → damages.inode_of m n ≢ Some (2, size)) → objects.get m (chunk_key n c) ≡ None
  no_chunk n c lt lc d = by (objects.get m (chunk_key n c)) refl
    where
      by : (o : Option (List ℕ)) → objects.get m (chunk_key n c) ≡ o → o ≡ None
      by None g = refl
      by (Some value) g = let f = facts.chunk_is k m held clear n c value lt lc g in absurd (d f.0 f.1)

  chunks_shown : (n c : ℕ) → n < 2 ^ 64 → c < 2 ^ 32 → ShowsChunk (objects.get m (chunk_key n c)) (node_of tree n) c
  chunks_shown n c lt lc = by (seen n lt)
    where
      by : Shown m clear.head.next n (node_of tree n) → ShowsChunk (objects.get m (chunk_key n c)) (node_of tree n) c
      by (nothing e f g) = subst (λ o. ShowsChunk (objects.get m (chunk_key n c)) o c) (sym g) (no_chunk n c lt lc (λ size h. let bad : None ≡ Some (2, size) = sym f ∙ h in cc))
      by (directory e f g low high) = subst (λ o. ShowsChunk (objects.get m (chunk_key n c)) o c) (sym g) (no_chunk n c lt lc (λ size h. let one : 1 ≡ 2 = ap (λ (p : ℕ × ℕ). p.0) (same_Some _ _ (sym f ∙ h)) in omega arith))
      by (content_is size e f g short low high) = subst (λ o. ShowsChunk (objects.get m (chunk_key n c)) o c) (sym g) (piece_is k m held clear n size c lt lc f)

  orphans : (n : ℕ) (node : Node) → n < 2 ^ 64 → node_of tree n ≡ Some node → IsNameless tree n → objects.get m (orphan_key n) ≡ Some orphan_value
  orphans n node lt is nameless = by (objects.get m (orphan_key n)) refl
    where
      by : (o : Option (List ℕ)) → objects.get m (orphan_key n) ≡ o → o ≡ Some orphan_value
      by (Some value) g = ap Some (facts.orphan_is k m held clear n value lt g).0
      by None g =
          let inode = inode_there n node lt is in
          absurd (clear.entries n lt (damages.lost (ap is_some inode.1) (λ one. nameless [] (root_named ∙ ap Some (sym one))) (λ name. let at = named_placed n lt name in nameless at.0 at.1) g))

  no_orphan : (q : Place) (n : ℕ) → number_at tree q ≡ Some n → objects.get m (orphan_key n) ≡ None
  no_orphan q n e = by (objects.get m (orphan_key n)) refl
    where
      by : (o : Option (List ℕ)) → objects.get m (orphan_key n) ≡ o → o ≡ None
      by None g = refl
      by (Some value) g =
          let d = (facts.orphan_is k m held clear n value (number_low q n e) g).2 in
          elim (last_of q) [
            | inl is ↦ absurd (d (same_Some _ _ (sym e ∙ ap (number_at tree) is ∙ root_named)))
            | inr is ↦
                let c = comes is.0 is.1 n (sym (ap (number_at tree) is.2) ∙ e) in
                absurd (clear.entries n (number_low q n e) (damages.both d (named_by m c.parent is.1 c.value n c.entry c.reads) (ap is_some g)))
          ]

  orphanless : (n : ℕ) → n < 2 ^ 64 → node_of tree n ≡ None → objects.get m (orphan_key n) ≡ None
  orphanless n lt none = by (objects.get m (orphan_key n)) refl
    where
      by : (o : Option (List ℕ)) → objects.get m (orphan_key n) ≡ o → o ≡ None
      by None g = refl
      by (Some value) g = let x = node_there n lt (facts.orphan_is k m held clear n value lt g).1 in let bad : None ≡ Some x.0 = sym none ∙ x.1 in absurd (cc)

  shows_tree : ShowsTree m tree
  shows_tree = record {
    inodes = inodes;
    entries = entries;
    no_entries = no_entries;
    chunks = chunks_shown;
    orphans = orphans;
    named = no_orphan;
    no_orphans = orphanless;
    only = facts.key_is k m held clear;
  }

  shows : Shows m tree clear.head.changes
  shows = record { tree = shows_tree; head = facts.head_is k m held clear }

  room : has_room k (named tree) ≡ true
  room =
      let high : clear.head.next ≤ 2 ^ 63 = let l = clear.head.low in omega arith in
      let a = is_le (charge (named tree)) k.keys (subst (λ c. c ≤ k.keys) (charge_named m tree is_tree shows_tree high) clear.room.charge) in
      let b = is_le (chunks (named tree)) k.pages (subst (λ c. c ≤ k.pages) (chunks_named m tree is_tree shows_tree high) clear.room.chunks) in
      λ i. a i && b i

  stands : StandFor k m tree clear.head.changes
  stands = record { tree = is_tree; shows = shows; room = room; few = clear.head.few; low = clear.head.low }

pub clear_stands : (k : Limits) (m : Objects) → IsHeld m → IsClear k m → (t : Tree) × (n : ℕ) × StandFor k m t n
clear_stands k m held clear = (tree k m held clear, clear.head.changes, stands k m held clear)
