-- Which objects show which tree, by look-ups.
use Rattle.std.specs.Prelude.{ℕ, ◌≡◌, ◌<◌, ◌≤◌, ◌+◌, ◌*◌, ◌^◌, List, [], ◌∷◌, ◌++◌, length, get_or, Option, Some, None, IfSome}
use Rattle.std.specs.Option.{option_map, unwrap_or}
use Rattle.std.specs.FinMap as objects
use Rattle.kv_device.specs.Objects.{Objects}
use Rattle.kfs_objects.specs.Keys.{super_key, inode_key, entry_key, chunk_key, orphan_key, IsObjectKey}
use Rattle.kfs_objects.specs.Records.{super_value, inode_value, entry_value, orphan_value}
use Rattle.kfs_model.specs.declared.Node.{Node}
use Rattle.kfs_model.specs.declared.Node.TheVariants.{Dir, File}
use Rattle.kfs_model.specs.Tree.{Place, Name, Tree, number_at, node_of, IsShort, IsNameless}

abbrev pub inode_of : Node → List ℕ
inode_of Dir = inode_value 1 0
inode_of (File bytes) = inode_value 2 (length bytes)

-- a chunk's object where a file has these bytes: 1 to 4,096 of them; what is absent or short is zero
pub record IsPiece (object : Option (List ℕ)) (bytes : List ℕ) (chunk : ℕ) : Type 0 where
  pub same : (i : ℕ) → i < 4096 → get_or bytes (4096 * chunk + i) 0 ≡ get_or (unwrap_or object []) i 0
  pub within : IfSome object (λ piece. (0 < length piece) × (length piece ≤ 4096) × (4096 * chunk + length piece ≤ length bytes))

abbrev pub ShowsChunk : Option (List ℕ) → Option Node → ℕ → Type 0
ShowsChunk object (Some (File bytes)) chunk = IsPiece object bytes chunk
ShowsChunk object (Some Dir) chunk = object ≡ None
ShowsChunk object None chunk = object ≡ None

pub record ShowsTree (m : Objects) (t : Tree) : Type 0 where
  pub inodes : (n : ℕ) → n < 2 ^ 64 → objects.get m (inode_key n) ≡ option_map inode_of (node_of t n)
  pub entries : (place : Place) (n : ℕ) (name : Name) → number_at t place ≡ Some n → IsShort name → objects.get m (entry_key n name) ≡ option_map entry_value (number_at t (place ++ name ∷ []))
  pub no_entries : (n : ℕ) (name : Name) → n < 2 ^ 64 → IsShort name → IsNameless t n → objects.get m (entry_key n name) ≡ None
  pub chunks : (n chunk : ℕ) → n < 2 ^ 64 → chunk < 2 ^ 32 → ShowsChunk (objects.get m (chunk_key n chunk)) (node_of t n) chunk
  pub orphans : (n : ℕ) (node : Node) → n < 2 ^ 64 → node_of t n ≡ Some node → IsNameless t n → objects.get m (orphan_key n) ≡ Some orphan_value
  pub named : (place : Place) (n : ℕ) → number_at t place ≡ Some n → objects.get m (orphan_key n) ≡ None
  pub no_orphans : (n : ℕ) → n < 2 ^ 64 → node_of t n ≡ None → objects.get m (orphan_key n) ≡ None
  pub only : (key value : List ℕ) → objects.get m key ≡ Some value → IsObjectKey key

-- the tree, and the number of changes
pub record Shows (m : Objects) (t : Tree) (k : ℕ) : Type 0 where
  pub tree : ShowsTree m t
  pub head : objects.get m super_key ≡ Some (super_value k t.next)
