-- What is proved of the definitions.
use Rattle.std.specs.Prelude.{ℕ, ◌+◌, ◌*◌, ◌||◌, ◌⊎◌, not, filter, sum_by, ◌≡◌, ◌≢◌, ◌≤◌, Bool, true, false, List, [], ◌∷◌, ◌++◌, length, Some, None, Err}
use Rattle.kfs_path.specs.declared.call.Call.{Call}
use Rattle.kfs_path.specs.declared.call.Call.TheVariants as calls
use Rattle.kfs_path.specs.declared.call.Reply.TheVariants as replies
use Rattle.kfs_path.specs.declared.call.Errno.{Errno}
use Rattle.kfs_model.specs.declared.Node.{Node}
use Rattle.kfs_model.specs.declared.Node.TheVariants.{Dir, File}
use Rattle.kfs_model.specs.Tree.{Limits, Tree, Place, Name, IsTree, IsName, IsKept, named, node_of, number_at, with_new, with_node, without_place, renamed, below, charge, chunks, chunks_of, is_named, fits, fits_at, greatest_length}
use Rattle.kfs_model.specs.Desk.{is_open, empty_desk}
use Rattle.kfs_model.specs.Life.{IsFree}
use Rattle.kfs_model.specs.Change.{weight}
use Rattle.kfs_laws.specs.Worlds.{WritesFiles, IsDesk}
use Rattle.kfs_model.specs.Step.{World, effect, step, swept}

-- the first error that applies is the reply, and a reply that is an error leaves the world as it was
abbrev pub ErrorsChangeNothing : Type 0
ErrorsChangeNothing =
    (k : Limits) (d : ℕ) (w : World) (call : Call) (e : Errno)
    → (effect k d w call ≡ Err e → step k d w call ≡ record { world = w; reply = replies.Err e })
    × ((step k d w call).reply ≡ replies.Err e → (step k d w call).world ≡ w)

-- the next number never falls, and a call raises it by one at most
abbrev pub NextRisesByOneAtMost : Type 0
NextRisesByOneAtMost =
    (k : Limits) (d : ℕ) (w : World) (call : Call)
    → (w.tree.next ≤ (step k d w call).world.tree.next) × ((step k d w call).world.tree.next ≤ w.tree.next + 1)

-- calls that look, move an offset, share a description, commit, or work in spare time
abbrev pub looks : Call → Bool
looks (calls.Dup fd) = true
looks (calls.Read fd count) = true
looks (calls.Pread fd count offset) = true
looks (calls.Lseek fd whence offset) = true
looks (calls.Stat path) = true
looks (calls.Fstat fd) = true
looks (calls.List path) = true
looks (calls.Fsync fd) = true
looks calls.Sync = true
looks calls.Room = true
looks calls.Tree = true
looks (calls.Work operations) = true
looks call = false

-- these leave the tree as it was
abbrev pub LookingLeavesTheTree : Type 0
LookingLeavesTheTree = (k : Limits) (d : ℕ) (w : World) (call : Call) → looks call ≡ true → (step k d w call).world.tree ≡ w.tree

-- a call that is no change leaves the tree as it was
abbrev pub NoChangeLeavesTheTree : Type 0
NoChangeLeavesTheTree =
    (k : Limits) (d : ℕ) (w : World) (call : Call) → IsTree w.tree → WritesFiles w
    → weight w call (step k d w call) ≡ None → (step k d w call).world.tree ≡ w.tree

-- without its nameless nodes a tree is a tree and has the rest, and a second time nothing goes
abbrev pub NamedIsATree : Type 0
NamedIsATree = (t : Tree) → IsTree t → IsTree (named t) × IsKept t (named t) × (named (named t) ≡ named t)

-- without the nodes that neither a place nor a description names a tree is a tree and has the rest
abbrev pub SweptIsATree : Type 0
SweptIsATree = (w : World) → IsTree w.tree → IsTree (swept w).tree × IsKept w.tree (swept w).tree

-- a file's new content, within the greatest length, leaves a tree
abbrev pub NewContentIsATree : Type 0
NewContentIsATree =
    (t : Tree) (n : ℕ) (was bytes : List ℕ) → IsTree t → node_of t n ≡ Some (File was) → length bytes ≤ greatest_length → IsTree (with_node t n (File bytes))

-- a new node at a free place in a directory leaves a tree, and that place names the next number
abbrev pub NewNodeIsATree : Type 0
NewNodeIsATree =
    (t : Tree) (place : Place) (name : Name) (p : ℕ) (node : Node) → IsTree t
    → number_at t place ≡ Some p → node_of t p ≡ Some Dir → number_at t (place ++ name ∷ []) ≡ None → IsName name
    → ((bytes : List ℕ) → node ≡ File bytes → length bytes ≤ greatest_length)
    → IsTree (with_new t (place ++ name ∷ []) node)
    × (number_at (with_new t (place ++ name ∷ []) node) (place ++ name ∷ []) ≡ Some t.next)
    × ((q : Place) → q ≢ place ++ name ∷ [] → number_at (with_new t (place ++ name ∷ []) node) q ≡ number_at t q)

-- a place other than the root, that nothing lies below, is named no more, and a tree is left in which the others name what they did
abbrev pub UnnamingIsATree : Type 0
UnnamingIsATree =
    (t : Tree) (place : Place) → IsTree t → place ≢ [] → ((x : Name) → number_at t (place ++ x ∷ []) ≡ None)
    → IsTree (without_place t place)
    × (number_at (without_place t place) place ≡ None)
    × ((q : Place) → q ≢ place → number_at (without_place t place) q ≡ number_at t q)

-- a place and all below it, moved to a free place in a directory that isn't below it, leave a tree: what
-- lay below the old place lies below the new one, nothing is left there, and the other places name what they did
abbrev pub RenameIsATree : Type 0
RenameIsATree =
    (t : Tree) (old place : Place) (name : Name) (p : ℕ) → IsTree t
    → number_at t place ≡ Some p → node_of t p ≡ Some Dir → number_at t (place ++ name ∷ []) ≡ None → IsName name → below old (place ++ name ∷ []) ≡ None
    → IsTree (renamed t old (place ++ name ∷ []))
    × ((tail : Place) → number_at (renamed t old (place ++ name ∷ [])) ((place ++ name ∷ []) ++ tail) ≡ number_at t (old ++ tail))
    × ((q tail : Place) → below old q ≡ Some tail → below (place ++ name ∷ []) q ≡ None → number_at (renamed t old (place ++ name ∷ [])) q ≡ None)
    × ((q : Place) → below old q ≡ None → below (place ++ name ∷ []) q ≡ None → number_at (renamed t old (place ++ name ∷ [])) q ≡ number_at t q)

-- a new node adds 2 and its chunks to the charge
abbrev pub NewNodeIsCharged : Type 0
NewNodeIsCharged =
    (t : Tree) (place : Place) (node : Node) → IsTree t
    → (charge (with_new t place node) ≡ charge t + 2 + chunks_of node) × (chunks (with_new t place node) ≡ chunks t + chunks_of node)

-- a file's new content puts its chunks in the place of the old ones
abbrev pub NewContentIsCharged : Type 0
NewContentIsCharged =
    (t : Tree) (n : ℕ) (was bytes : List ℕ) → IsTree t → node_of t n ≡ Some (File was)
    → (charge (with_node t n (File bytes)) + chunks_of (File was) ≡ charge t + chunks_of (File bytes))
    × (chunks (with_node t n (File bytes)) + chunks_of (File was) ≡ chunks t + chunks_of (File bytes))

-- the nodes that neither a place nor a description names
abbrev pub unreached : World → List (ℕ × Node)
unreached w = filter (λ e. not (is_named w.tree e.0 || is_open w.desk e.0)) w.tree.nodes

-- each node that goes takes 2 and its chunks off the charge; a name that goes or moves takes nothing
abbrev pub WhatGoesIsChargedNoMore : Type 0
WhatGoesIsChargedNoMore =
    (w : World)
    → (charge (swept w).tree + (2 * length (unreached w) + sum_by (λ e. chunks_of e.1) (unreached w)) ≡ charge w.tree)
    × (chunks (swept w).tree + sum_by (λ e. chunks_of e.1) (unreached w) ≡ chunks w.tree)
    × ((place : Place) → charge (without_place w.tree place) ≡ charge w.tree)
    × ((old new : Place) → charge (renamed w.tree old new) ≡ charge w.tree)

-- the greatest number up to m that passes the test, or 0 where none does
pub record IsMost (test : ℕ → Bool) (m j : ℕ) : Type 0 where
  pub within : j ≤ m
  pub passes : (j ≡ 0) ⊎ (test j ≡ true)
  pub most : (i : ℕ) → i ≤ m → test i ≡ true → i ≤ j

-- as many bytes are written as fit, and no number more of those asked for does
abbrev pub FitsIsTheMost : Type 0
FitsIsTheMost = (k : Limits) (t : Tree) (n : ℕ) (bytes : List ℕ) (p m : ℕ) → IsMost (fits_at k t n bytes p) m (fits k t n bytes p m)

-- with nothing open a desk is one, and each call leaves one; d is the number of no description
abbrev pub EachCallKeepsTheDesk : Type 0
EachCallKeepsTheDesk =
    IsDesk empty_desk × ((k : Limits) (d : ℕ) (w : World) (call : Call) → IsFree w d → IsDesk w.desk → IsDesk (step k d w call).world.desk)
