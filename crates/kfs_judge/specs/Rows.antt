-- What is kept of each object that was read.
use Rattle.std.specs.Prelude.{ℕ, ◌≡◌, ◌<◌, ◌^◌, ◌+◌, ◌*◌, ◌==◌, ◌⊎◌, Bool, true, List, [], ◌∷◌, ◌++◌, length, Option, Some}
use Rattle.std.specs.Option.{option_map}
use Rattle.kv_device.specs.declared.fault.DeviceFault.{DeviceFault}
use Rattle.kv_device.specs.declared.fault.DeviceFault.TheVariants.{Memory}
use Rattle.kv_device.specs.Machine.{Machine}
use Rattle.kv_device.specs.Calls.{ReadFault}
use Rattle.kfs_objects.specs.declared.records.Super.{Super}
use Rattle.kfs_objects.specs.declared.records.Inode.{Inode}
use Rattle.kfs_objects.specs.Keys.{super_key, inode_key, entry_key, chunk_key, orphan_key, IsObjectKey}
use Rattle.kfs_objects.specs.Records.{read_super, read_inode, read_entry, orphan_value}
use Rattle.kfs_model.specs.Tree.{Name, IsName, IsShort}
use Rattle.kfs_judge.specs.declared.row.Row.{Row}
use Rattle.kfs_judge.specs.declared.row.Row.TheVariants as rows
use Rattle.kfs_judge.specs.Judging.{is_key}

-- an entry's row: its node's parent, the node that it names, and whether its name is one
pub record IsEntryRow (key value : List ℕ) (parent : ℕ) (child : Option ℕ) (named : Bool) : Type 0 where
  pub name : Name
  pub spelled : key ≡ entry_key parent name
  pub low : parent < 2 ^ 64
  pub short : IsShort name
  pub reads : child ≡ read_entry value
  pub child_low : (n : ℕ) → child ≡ Some n → n < 2 ^ 64
  pub is_name : named ≡ true → IsName name
  pub is_none : IsName name → named ≡ true

-- a chunk's row: its node, where it ends, and whether it is empty
pub record IsChunkRow (key value : List ℕ) (node end : ℕ) (is_empty : Bool) : Type 0 where
  pub chunk : ℕ
  pub spelled : key ≡ chunk_key node chunk
  pub low : node < 2 ^ 64
  pub small : chunk < 2 ^ 32
  pub ends : end ≡ 4096 * chunk + length value
  pub empty : is_empty ≡ (length value == 0)

-- a row says so of a key and its value
abbrev pub Tells : List ℕ → List ℕ → Row → Type 0
Tells key value (rows.Head head) = (key ≡ super_key) × (option_map (λ (s : Super). (s.changes, s.next)) head ≡ read_super value)
Tells key value (rows.Inode node inode) = (key ≡ inode_key node) × (node < 2 ^ 64) × (option_map (λ (i : Inode). (i.kind, i.length)) inode ≡ read_inode value)
Tells key value (rows.Entry parent child named) = IsEntryRow key value parent child named
Tells key value (rows.Chunk node end is_empty) = IsChunkRow key value node end is_empty
Tells key value (rows.Orphan node reads) = (key ≡ orphan_key node) × (node < 2 ^ 64) × (reads ≡ true → value ≡ orphan_value) × (value ≡ orphan_value → reads ≡ true)
Tells key value rows.Strange = IsObjectKey key → ⊥

-- the row of an object that a call can name
pub record IsRow (e : List ℕ × List ℕ) (row : Row) : Type 0 where
  pub key : is_key e.0 ≡ true
  pub tells : Tells e.0 e.1 row

-- one row for each object, in their order
abbrev pub AreRows : List (List ℕ × List ℕ) → List Row → Type 0
AreRows [] [] = Unit {0}
AreRows [] (row ∷ rows) = ⊥
AreRows (e ∷ es) [] = ⊥
AreRows (e ∷ es) (row ∷ rows) = IsRow e row × AreRows es rows

-- whatever objects had these rows, with these as well they have the new ones
abbrev pub Extends : List (List ℕ × List ℕ) → List Row → List Row → Type 0
Extends es old new = (before : List (List ℕ × List ℕ)) → AreRows before old → AreRows (before ++ es) new

-- want of memory before the device was asked, or what the device answered
abbrev pub ReadFails : Machine → ℕ → DeviceFault → Machine → Type 0
ReadFails m tx fault new = ((fault ≡ Memory) × (new ≡ m)) ⊎ ReadFault m tx fault new
