-- What is proved of what objects show.
use Rattle.std.specs.Prelude.{ℕ, ◌≡◌, ◌≢◌, ◌==◌, not, ◌<◌, ◌≤◌, ◌^◌, List, [], ◌∷◌, ◌++◌, length, filter, Some, None}
use Rattle.std.specs.FinMap as objects
use Rattle.kv_device.specs.Objects.{Objects, page_count}
use Rattle.kfs_objects.specs.Keys.{super_key, inode_key, entry_key, chunk_key, orphan_key}
use Rattle.kfs_objects.specs.Records.{super_value, inode_value, entry_value, orphan_value}
use Rattle.kfs_model.specs.declared.Node.TheVariants.{Dir, File}
use Rattle.kfs_model.specs.Tree.{Place, Name, Tree, root_alone, with_new, with_node, without_place, renamed, below, greatest_length, charge, chunks, IsTree, IsName, IsKept, IsNameless, number_at, node_of}
use Rattle.kfs_shows.specs.Shows.{Shows, ShowsTree, IsPiece}

-- what a format writes shows a root alone, after no change
abbrev pub FirstShows : Type 0
FirstShows = IsTree root_alone × Shows (objects.insert (objects.insert objects.empty (inode_key 1) (inode_value 1 0)) super_key (super_value 0 2)) root_alone 0

-- a directory's objects show the tree with it
abbrev pub MakingShows : Type 0
MakingShows =
    (m : Objects) (t : Tree) (place : Place) (name : Name) (p : ℕ) → IsTree t → ShowsTree m t → t.next < 2 ^ 64
    → number_at t place ≡ Some p → node_of t p ≡ Some Dir → number_at t (place ++ name ∷ []) ≡ None → IsName name
    → IsTree (with_new t (place ++ name ∷ []) Dir) × ShowsTree (objects.insert (objects.insert m (inode_key t.next) (inode_value 1 0)) (entry_key p name) (entry_value t.next)) (with_new t (place ++ name ∷ []) Dir)

-- a new file's objects show the tree with it
abbrev pub MakingFileShows : Type 0
MakingFileShows =
    (m : Objects) (t : Tree) (place : Place) (name : Name) (p : ℕ) → IsTree t → ShowsTree m t → t.next < 2 ^ 64
    → number_at t place ≡ Some p → node_of t p ≡ Some Dir → number_at t (place ++ name ∷ []) ≡ None → IsName name
    → IsTree (with_new t (place ++ name ∷ []) (File [])) × ShowsTree (objects.insert (objects.insert m (inode_key t.next) (inode_value 2 0)) (entry_key p name) (entry_value t.next)) (with_new t (place ++ name ∷ []) (File []))

-- a file's inode and chunks are those of these bytes, and every other key is as before
pub record PutsContent (before after : Objects) (n : ℕ) (bytes : List ℕ) : Type 0 where
  pub inode : objects.get after (inode_key n) ≡ Some (inode_value 2 (length bytes))
  pub pieces : (chunk : ℕ) → chunk < 2 ^ 32 → IsPiece (objects.get after (chunk_key n chunk)) bytes chunk
  pub others : (key : List ℕ) → key ≢ inode_key n → ((chunk : ℕ) → chunk < 2 ^ 32 → key ≢ chunk_key n chunk) → objects.get after key ≡ objects.get before key

-- a file's new objects show the tree with its new content
abbrev pub ContentShows : Type 0
ContentShows =
    (m after : Objects) (t : Tree) (n : ℕ) (was bytes : List ℕ) → IsTree t → ShowsTree m t → t.next ≤ 2 ^ 64
    → node_of t n ≡ Some (File was) → length bytes ≤ greatest_length → PutsContent m after n bytes
    → IsTree (with_node t n (File bytes)) × ShowsTree after (with_node t n (File bytes))

-- a name that nothing lies below is taken away while its node stays: its entry goes, and an orphan object comes
abbrev pub UnnamingShows : Type 0
UnnamingShows =
    (m : Objects) (t : Tree) (place : Place) (name : Name) (p n : ℕ) → IsTree t → ShowsTree m t → t.next ≤ 2 ^ 64
    → number_at t place ≡ Some p → number_at t (place ++ name ∷ []) ≡ Some n → ((x : Name) → number_at t ((place ++ name ∷ []) ++ x ∷ []) ≡ None)
    → IsTree (without_place t (place ++ name ∷ [])) × ShowsTree (objects.insert (objects.remove m (entry_key p name)) (orphan_key n) orphan_value) (without_place t (place ++ name ∷ []))
    × IsNameless (without_place t (place ++ name ∷ [])) n

-- a tree without a node that no place names
abbrev pub without_node : Tree → ℕ → Tree
without_node t n = record { names = t.names; nodes = filter (λ e. not (e.0 == n)) t.nodes; next = t.next }

-- no object of the node is left, and every other key is as before
pub record DropsNode (before after : Objects) (n : ℕ) : Type 0 where
  pub inode : objects.get after (inode_key n) ≡ None
  pub orphan : objects.get after (orphan_key n) ≡ None
  pub chunks : (chunk : ℕ) → chunk < 2 ^ 32 → objects.get after (chunk_key n chunk) ≡ None
  pub others : (key : List ℕ) → key ≢ inode_key n → key ≢ orphan_key n → ((chunk : ℕ) → chunk < 2 ^ 32 → key ≢ chunk_key n chunk) → objects.get after key ≡ objects.get before key

-- without the objects of a nameless node the map shows the tree without that node
abbrev pub DroppingShows : Type 0
DroppingShows =
    (m after : Objects) (t : Tree) (n : ℕ) → IsTree t → ShowsTree m t → n < 2 ^ 64 → t.next ≤ 2 ^ 64 → IsNameless t n → DropsNode m after n
    → IsTree (without_node t n) × ShowsTree after (without_node t n) × IsKept t (without_node t n)

-- an entry's key is gone with the inode and the chunks of its node, and every other key is as before
pub record DropsNamed (before after : Objects) (p : ℕ) (name : Name) (n : ℕ) : Type 0 where
  pub entry : objects.get after (entry_key p name) ≡ None
  pub inode : objects.get after (inode_key n) ≡ None
  pub chunks : (chunk : ℕ) → chunk < 2 ^ 32 → objects.get after (chunk_key n chunk) ≡ None
  pub others : (key : List ℕ) → key ≢ entry_key p name → key ≢ inode_key n → ((chunk : ℕ) → chunk < 2 ^ 32 → key ≢ chunk_key n chunk) → objects.get after key ≡ objects.get before key

-- a name that nothing lies below is taken away together with its node
abbrev pub UnnamingDropsShows : Type 0
UnnamingDropsShows =
    (m after : Objects) (t : Tree) (place : Place) (name : Name) (p n : ℕ) → IsTree t → ShowsTree m t → t.next ≤ 2 ^ 64
    → number_at t place ≡ Some p → number_at t (place ++ name ∷ []) ≡ Some n → ((x : Name) → number_at t ((place ++ name ∷ []) ++ x ∷ []) ≡ None) → DropsNamed m after p name n
    → IsTree (without_node (without_place t (place ++ name ∷ [])) n) × ShowsTree after (without_node (without_place t (place ++ name ∷ [])) n)

-- one entry's key is gone, another's names the node, and every other key is as before
pub record MovesEntry (before after : Objects) (p : ℕ) (was : Name) (q : ℕ) (name : Name) (n : ℕ) : Type 0 where
  pub gone : objects.get after (entry_key p was) ≡ None
  pub new : objects.get after (entry_key q name) ≡ Some (entry_value n)
  pub others : (key : List ℕ) → key ≢ entry_key p was → key ≢ entry_key q name → objects.get after key ≡ objects.get before key

-- a place and all below it lie at a free one in a directory that isn't below it: one entry goes and one comes
abbrev pub RenamingShows : Type 0
RenamingShows =
    (m : Objects) (t : Tree) (up : Place) (was : Name) (place : Place) (name : Name) (p q n : ℕ) → IsTree t → ShowsTree m t → t.next ≤ 2 ^ 64
    → number_at t up ≡ Some p → number_at t (up ++ was ∷ []) ≡ Some n
    → number_at t place ≡ Some q → node_of t q ≡ Some Dir → number_at t (place ++ name ∷ []) ≡ None → IsName name
    → below (up ++ was ∷ []) (place ++ name ∷ []) ≡ None
    → IsTree (renamed t (up ++ was ∷ []) (place ++ name ∷ []))
    × ShowsTree (objects.insert (objects.remove m (entry_key p was)) (entry_key q name) (entry_value n)) (renamed t (up ++ was ∷ []) (place ++ name ∷ []))

-- one entry's key is gone, another's names its node, an orphan object stands for the node that was
-- named there, and every other key is as before
pub record MovesOverKept (before after : Objects) (p : ℕ) (was : Name) (q : ℕ) (name : Name) (n r : ℕ) : Type 0 where
  pub gone : objects.get after (entry_key p was) ≡ None
  pub new : objects.get after (entry_key q name) ≡ Some (entry_value n)
  pub orphan : objects.get after (orphan_key r) ≡ Some orphan_value
  pub others : (key : List ℕ) → key ≢ entry_key p was → key ≢ entry_key q name → key ≢ orphan_key r → objects.get after key ≡ objects.get before key

-- one entry's key is gone, another's names its node, the inode and the chunks of the node that was named
-- there are gone, and every other key is as before
pub record MovesOverDropped (before after : Objects) (p : ℕ) (was : Name) (q : ℕ) (name : Name) (n r : ℕ) : Type 0 where
  pub gone : objects.get after (entry_key p was) ≡ None
  pub new : objects.get after (entry_key q name) ≡ Some (entry_value n)
  pub inode : objects.get after (inode_key r) ≡ None
  pub chunks : (chunk : ℕ) → chunk < 2 ^ 32 → objects.get after (chunk_key r chunk) ≡ None
  pub others : (key : List ℕ) → key ≢ entry_key p was → key ≢ entry_key q name → key ≢ inode_key r → ((chunk : ℕ) → chunk < 2 ^ 32 → key ≢ chunk_key r chunk) → objects.get after key ≡ objects.get before key

-- the same where the new place has a name that nothing lies below: its node stays without a name, or goes
abbrev pub ReplacingShows : Type 0
ReplacingShows =
    (m after : Objects) (t : Tree) (up : Place) (was : Name) (place : Place) (name : Name) (p q n r : ℕ) → IsTree t → ShowsTree m t → t.next ≤ 2 ^ 64
    → number_at t up ≡ Some p → number_at t (up ++ was ∷ []) ≡ Some n
    → number_at t place ≡ Some q → number_at t (place ++ name ∷ []) ≡ Some r → ((x : Name) → number_at t ((place ++ name ∷ []) ++ x ∷ []) ≡ None)
    → below (up ++ was ∷ []) (place ++ name ∷ []) ≡ None
    → (MovesOverKept m after p was q name n r
    → IsTree (renamed (without_place t (place ++ name ∷ [])) (up ++ was ∷ []) (place ++ name ∷ []))
    × ShowsTree after (renamed (without_place t (place ++ name ∷ [])) (up ++ was ∷ []) (place ++ name ∷ []))
    × IsNameless (renamed (without_place t (place ++ name ∷ [])) (up ++ was ∷ []) (place ++ name ∷ [])) r)
    × (MovesOverDropped m after p was q name n r
    → IsTree (renamed (without_node (without_place t (place ++ name ∷ [])) r) (up ++ was ∷ []) (place ++ name ∷ []))
    × ShowsTree after (renamed (without_node (without_place t (place ++ name ∷ [])) r) (up ++ was ∷ []) (place ++ name ∷ [])))

-- a map shows one tree and number at most
abbrev pub ShowsOnce : Type 0
ShowsOnce = (m : Objects) (t u : Tree) (k j : ℕ) → IsTree t → IsTree u → Shows m t k → Shows m u j → t.next < 2 ^ 63 → u.next < 2 ^ 63 → k < 2 ^ 63 → j < 2 ^ 63 → (t ≡ u) × (k ≡ j)

-- a tree's objects are at most its charge, and the large ones at most its chunks
abbrev pub ObjectsFit : Type 0
ObjectsFit = (m : Objects) (t : Tree) (k : ℕ) → IsTree t → Shows m t k → t.next ≤ 2 ^ 63 → (objects.len m ≤ charge t) × (page_count m ≤ chunks t)
