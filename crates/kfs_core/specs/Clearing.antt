-- The nodes without a name, which a mount removes.
use Rattle.std.specs.Prelude.{ℕ, ◌≡◌, ◌≢◌, ◌<◌, ◌≤◌, ◌^◌, List, true, [], ◌∷◌, Some, None}
use Rattle.std.specs.FinMap as objects
use Rattle.kv_device.specs.declared.fault.DeviceFault.{DeviceFault}
use Rattle.kv_device.specs.Objects.{Objects, is_wanted}
use Rattle.kv_device.specs.Machine.{Machine}
use Rattle.kfs_objects.specs.Keys.{orphan_key, orphan_front, inode_key, inode_front, IsObjectKey}
use Rattle.kfs_judge.specs.Judging.{is_key}
use Rattle.kfs_model.specs.Tree.{Tree, IsTree, IsKept, named, greatest_length}
use Rattle.kfs_shows.specs.Shows.{Shows}
use Rattle.kv_device.specs.Calls.{has_room}
use Rattle.kfs_tx.specs.Tx.{Tx, started, seen, HasCause, SameBounds}
use Rattle.kfs_core.specs.Flat.{inode_in}

-- whatever tree the objects showed, they show it still, without some of its nameless nodes, possibly none
pub record Keeps (old new : Objects) : Type 0 where
  pub each : (t : Tree) (k : ℕ) → IsTree t → t.next ≤ 2 ^ 63 → Shows old t k → (kept : Tree) × IsKept t kept × IsTree kept × Shows new kept k

-- whatever tree the objects showed, they show it without all its nameless nodes
pub record Cleared (old new : Objects) : Type 0 where
  pub each : (t : Tree) (k : ℕ) → IsTree t → t.next ≤ 2 ^ 63 → Shows old t k → IsTree (named t) × Shows new (named t) k

-- the key begins as those of orphan objects do
abbrev pub IsOrphanFronted : List ℕ → Type 0
IsOrphanFronted key = is_wanted orphan_front orphan_front key ≡ true

-- of the keys that a call can name each has a form, no inode is longer than a file may be, and a node with an orphan object has an inode that reads
pub record IsTidy (m : Objects) : Type 0 where
  pub forms : (key value : List ℕ) → objects.get m key ≡ Some value → is_key key ≡ true → IsObjectKey key
  pub lengths : (n kind size : ℕ) → n < 2 ^ 64 → is_key (inode_key n) ≡ true → inode_in m n ≡ Some (kind, size) → size ≤ greatest_length
  pub inodes : (n : ℕ) (value : List ℕ) → n < 2 ^ 64 → is_key (orphan_key n) ≡ true → objects.get m (orphan_key n) ≡ Some value → inode_in m n ≢ None

-- only objects of nodes with orphan objects went, and of each such node its inode with its orphan object
pub record Sweeps (old new : Objects) : Type 0 where
  pub kept : (key value : List ℕ) → objects.get new key ≡ Some value → objects.get old key ≡ Some value
  pub gone : (n : ℕ) → n < 2 ^ 64 → objects.get old (orphan_key n) ≢ None → objects.get new (orphan_key n) ≡ None → objects.get new (inode_key n) ≡ None
  pub stays : (n : ℕ) (value : List ℕ) → n < 2 ^ 64 → objects.get new (orphan_key n) ≡ Some value → objects.get new (inode_key n) ≡ objects.get old (inode_key n)

-- a call can name the key of each inode
abbrev pub AreNodesNamed : Objects → Type 0
AreNodesNamed m = (key value : List ℕ) → objects.get m key ≡ Some value → is_wanted inode_front inode_front key ≡ true → is_key key ≡ true

-- with nothing pending, and nothing changed but what is stored
abbrev pub begun_over : Machine → Objects → ℕ → ℕ → Tx
begun_over m now changes next = started (record m { stable = now }) changes next

-- a running transaction with nothing in it
pub record IsFresh (r : Tx) : Type 0 where
  pub up : r.machine.up ≡ true
  pub pending : r.machine.pending ≡ Some objects.empty ∷ None ∷ None ∷ None ∷ []
  pub id : r.id ≡ 0
  pub since : r.since ≡ 0
  pub weight : r.weight ≡ 0

-- the same tx over other stored objects
abbrev pub with_stable : Tx → Objects → Tx
with_stable r now = record r { machine = record r.machine { stable = now } }

-- nodes without a name were removed, and nothing else changed
pub record Clears (old new : Tx) : Type 0 where
  pub same : new ≡ with_stable old new.machine.stable
  pub keeps : Keeps old.machine.stable new.machine.stable

-- the objects that the transaction sees have room
abbrev pub IsRoomy : Tx → Type 0
IsRoomy r = has_room r.machine (seen r) ≡ true

-- a failure between, by the count that rose or for want of memory: what stands shows the tree still, without some of its nameless nodes, possibly none
pub record ClearFails (old : Tx) (fault : DeviceFault) (new : Machine) : Type 0 where
  pub cause : HasCause old.machine fault new
  pub keeps : Keeps old.machine.stable new.stable
  pub bounds : SameBounds old.machine new

-- no node has an orphan object
abbrev pub NoOrphans : Objects → Type 0
NoOrphans m = (n : ℕ) → objects.get m (orphan_key n) ≡ None
