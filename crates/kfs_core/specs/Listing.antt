-- The named nodes, a parent before what lies below it.
use Rattle.std.specs.Prelude.{ℕ, ◌-◌, ◌^◌, ◌==◌, true, false, List, [], ◌∷◌, ◌++◌, map, take, drop, Option, Some, None, if◌then◌else◌}
use Rattle.std.specs.Option.{unwrap_or}
use Rattle.kv_device.specs.Objects.{Objects, pairs_from}
use Rattle.kfs_objects.specs.Keys.{entry_key}
use Rattle.kfs_objects.specs.Records.{read_entry}
use Rattle.kfs_path.specs.declared.call.TreeItem.{TreeItem}
use Rattle.kfs_model.specs.Tree.{Place}
use Rattle.kfs_core.specs.declared.fault.CoreFault.{CoreFault}
use Rattle.kfs_core.specs.declared.fault.CoreFault.TheVariants.{No, Device}
use Rattle.kfs_core.specs.declared.tree.Pending.{Pending}
use Rattle.kfs_core.specs.Flat.{inode_in}

-- a place and its node
abbrev pub At : Type 0
At = Place × ℕ

abbrev pub at_of : Pending → At
at_of pending = (pending.path, pending.node)

-- an entry, as a place below; one that doesn't read names node 0, which is never there
abbrev pub place_below : Place → List ℕ × List ℕ → At
place_below place e = (place ++ drop 9 e.0 ∷ [], unwrap_or (read_entry e.1) 0)

-- the entries of a directory, in the order of their names; a file has none
abbrev pub pairs_below : Objects → ℕ → Option (ℕ × ℕ) → List (List ℕ × List ℕ)
pairs_below m n None = []
pairs_below m n (Some (kind, size)) = if kind == 1 then take (2 ^ 32 - 1) (pairs_from m (entry_key n []) (entry_key n [])) else []

-- the places right below one
abbrev pub right_below : Objects → At → List At
right_below m at = map (place_below at.0) (pairs_below m at.1 (inode_in m at.1))

-- a place as it is told, by its node's inode
abbrev pub item_at : Place → Option (ℕ × ℕ) → TreeItem
item_at place None = record { path = place; file = false; length = 0 }
item_at place (Some (kind, size)) = if kind == 1 then record { path = place; file = false; length = 0 } else record { path = place; file = true; length = size }

-- the places that are to be told, the first one first, with all that lies below them
pub data Lists (m : Objects) : List At → List TreeItem → Type 0 where
  lists_none : Lists m [] []
  lists_some : (at : At) (todo : List At) (items : List TreeItem) → Lists m (right_below m at ++ todo) items → Lists m (at ∷ todo) (item_at at.0 (inode_in m at.1) ∷ items)

-- all places, from the root on
abbrev pub ListsAll : Objects → List TreeItem → Type 0
ListsAll m items = Lists m (([], 1) ∷ []) items

-- no error of a call, since none comes here
abbrev pub IsOfDevice : CoreFault → Type 0
IsOfDevice (No errno) = ⊥
IsOfDevice (Device fault) = Unit {0}
