-- Which bytes spell which object's key.
use Rattle.std.specs.Prelude.{ℕ, ◌<◌, ◌^◌, List}
use Rattle.kfs_objects.specs.declared.keys.ObjectKey.{ObjectKey}
use Rattle.kfs_objects.specs.declared.keys.ObjectKey.TheVariants.{Super, Inode, Entry, Chunk, Orphan}
use Rattle.kfs_objects.specs.Keys.{super_key, inode_key, entry_key, chunk_key, orphan_key, IsNamed}

-- an entry's name is what follows its first 9 bytes
pub data SpellsKey : List ℕ → ObjectKey → Type 0 where
  spells_super : SpellsKey super_key Super
  spells_inode : (node : ℕ) → node < 2 ^ 64 → SpellsKey (inode_key node) (Inode node)
  spells_entry : (parent : ℕ) (name : List ℕ) → parent < 2 ^ 64 → IsNamed name → SpellsKey (entry_key parent name) (Entry parent)
  spells_chunk : (node chunk : ℕ) → node < 2 ^ 64 → chunk < 2 ^ 32 → SpellsKey (chunk_key node chunk) (Chunk node chunk)
  spells_orphan : (node : ℕ) → node < 2 ^ 64 → SpellsKey (orphan_key node) (Orphan node)
