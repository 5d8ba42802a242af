-- What the calls leave that take names away: the objects show the tree without the nodes that neither a
-- place nor a description names.
use Rattle.std.specs.Prelude.{ℕ, ◌≡◌, ◌≢◌, ◌≤◌, ◌+◌, ◌^◌, true, false, List, [], ◌∷◌, ◌++◌, Some, None}
use Rattle.std.specs.FinMap as objects
use Rattle.kv_device.specs.Objects.{Objects}
use Rattle.kfs_objects.specs.Keys.{entry_key, orphan_key}
use Rattle.kfs_objects.specs.Records.{orphan_value}
use Rattle.kfs_model.specs.declared.Node.{Node}
use Rattle.kfs_model.specs.declared.Node.TheVariants.{Dir}
use Rattle.kfs_model.specs.Tree.{Place, Name, Tree, without_place, renamed, below, charge, chunks, chunks_of, IsTree, IsName, IsNameless, number_at, node_of}
use Rattle.kfs_model.specs.Desk.{is_open}
use Rattle.kfs_model.specs.Step.{World, swept}
use Rattle.kfs_shows.specs.Shows.{ShowsTree}
use Rattle.kfs_shows.specs.Laws.{DropsNode, DropsNamed, MovesEntry, MovesOverKept, MovesOverDropped}

-- each node that no place names is open
abbrev pub AllOpen : World → Type 0
AllOpen w = (k : ℕ) (node : Node) → node_of w.tree k ≡ Some node → IsNameless w.tree k → is_open w.desk k ≡ true

-- the same, but for one node
abbrev pub OpenBut : World → ℕ → Type 0
OpenBut w n = (k : ℕ) (node : Node) → k ≢ n → node_of w.tree k ≡ Some node → IsNameless w.tree k → is_open w.desk k ≡ true

-- the objects show the tree, and each node of it that no place names is open
pub record ShowsWorld (m : Objects) (w : World) : Type 0 where
  pub tree : IsTree w.tree
  pub shows : ShowsTree m w.tree
  pub opened : AllOpen w

-- a tree of so many keys and pages fewer
pub record Frees (t u : Tree) (fewer_keys fewer_pages : ℕ) : Type 0 where
  pub keys : charge u + fewer_keys ≡ charge t
  pub pages : chunks u + fewer_pages ≡ chunks t

-- the keys that a node takes
abbrev pub keys_of : Node → ℕ
keys_of node = 2 + chunks_of node

-- the same open files over another tree
abbrev pub with_tree : World → Tree → World
with_tree w t = record { tree = t; desk = w.desk }

-- an entry's key is gone, an orphan object stands for its node, and every other key is as before
pub record KeepsUnnamed (before after : Objects) (p : ℕ) (name : Name) (n : ℕ) : Type 0 where
  pub entry : objects.get after (entry_key p name) ≡ None
  pub orphan : objects.get after (orphan_key n) ≡ Some orphan_value
  pub others : (key : List ℕ) → key ≢ entry_key p name → key ≢ orphan_key n → objects.get after key ≡ objects.get before key

-- a name that nothing lies below is taken away: its node stays where it is open, and else goes
abbrev pub UnlinkingShows : Type 0
UnlinkingShows =
    (m after : Objects) (w : World) (place : Place) (name : Name) (p n : ℕ) (node : Node) → ShowsWorld m w → w.tree.next ≤ 2 ^ 64
    → number_at w.tree place ≡ Some p → number_at w.tree (place ++ name ∷ []) ≡ Some n → node_of w.tree n ≡ Some node → ((x : Name) → number_at w.tree ((place ++ name ∷ []) ++ x ∷ []) ≡ None)
    → (is_open w.desk n ≡ true → KeepsUnnamed m after p name n
    → ShowsWorld after (swept (with_tree w (without_place w.tree (place ++ name ∷ [])))) × Frees w.tree (swept (with_tree w (without_place w.tree (place ++ name ∷ [])))).tree 0 0)
    × (is_open w.desk n ≡ false → DropsNamed m after p name n
    → ShowsWorld after (swept (with_tree w (without_place w.tree (place ++ name ∷ [])))) × Frees w.tree (swept (with_tree w (without_place w.tree (place ++ name ∷ [])))).tree (keys_of node) (chunks_of node))

-- a node without a name that is open no more goes; where each is open nothing goes
abbrev pub ReleasingShows : Type 0
ReleasingShows =
    (m after : Objects) (w : World) → IsTree w.tree → ShowsTree m w.tree → w.tree.next ≤ 2 ^ 64
    → ((n : ℕ) (node : Node) → node_of w.tree n ≡ Some node → IsNameless w.tree n → OpenBut w n → is_open w.desk n ≡ false → DropsNode m after n
    → ShowsWorld after (swept w) × Frees w.tree (swept w).tree (keys_of node) (chunks_of node))
    × (AllOpen w → ((swept w).tree ≡ w.tree) × ShowsWorld m (swept w))

-- the place with all below it lies at a free one: nothing goes
abbrev pub MovingShows : Type 0
MovingShows =
    (m after : Objects) (w : World) (up : Place) (was : Name) (place : Place) (name : Name) (p q n : ℕ) → ShowsWorld m w → w.tree.next ≤ 2 ^ 64
    → number_at w.tree up ≡ Some p → number_at w.tree (up ++ was ∷ []) ≡ Some n
    → number_at w.tree place ≡ Some q → node_of w.tree q ≡ Some Dir → number_at w.tree (place ++ name ∷ []) ≡ None → IsName name
    → below (up ++ was ∷ []) (place ++ name ∷ []) ≡ None → MovesEntry m after p was q name n
    → ShowsWorld after (swept (with_tree w (renamed (without_place w.tree (place ++ name ∷ [])) (up ++ was ∷ []) (place ++ name ∷ []))))
    × Frees w.tree (swept (with_tree w (renamed (without_place w.tree (place ++ name ∷ [])) (up ++ was ∷ []) (place ++ name ∷ [])))).tree 0 0

-- the place with all below it lies where nothing lay below: the node that was there stays where it is open, and else goes
abbrev pub MovingOverShows : Type 0
MovingOverShows =
    (m after : Objects) (w : World) (up : Place) (was : Name) (place : Place) (name : Name) (p q n r : ℕ) (node : Node) → ShowsWorld m w → w.tree.next ≤ 2 ^ 64
    → number_at w.tree up ≡ Some p → number_at w.tree (up ++ was ∷ []) ≡ Some n
    → number_at w.tree place ≡ Some q → number_at w.tree (place ++ name ∷ []) ≡ Some r → node_of w.tree r ≡ Some node → ((x : Name) → number_at w.tree ((place ++ name ∷ []) ++ x ∷ []) ≡ None)
    → below (up ++ was ∷ []) (place ++ name ∷ []) ≡ None
    → (is_open w.desk r ≡ true → MovesOverKept m after p was q name n r
    → ShowsWorld after (swept (with_tree w (renamed (without_place w.tree (place ++ name ∷ [])) (up ++ was ∷ []) (place ++ name ∷ []))))
    × Frees w.tree (swept (with_tree w (renamed (without_place w.tree (place ++ name ∷ [])) (up ++ was ∷ []) (place ++ name ∷ [])))).tree 0 0)
    × (is_open w.desk r ≡ false → MovesOverDropped m after p was q name n r
    → ShowsWorld after (swept (with_tree w (renamed (without_place w.tree (place ++ name ∷ [])) (up ++ was ∷ []) (place ++ name ∷ []))))
    × Frees w.tree (swept (with_tree w (renamed (without_place w.tree (place ++ name ∷ [])) (up ++ was ∷ []) (place ++ name ∷ [])))).tree (keys_of node) (chunks_of node))
