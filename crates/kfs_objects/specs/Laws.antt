-- What is proved of the spellings.
use Rattle.std.specs.Prelude.{ℕ, ◌≡◌, ◌<◌, ◌^◌, List, Some}
use Rattle.kfs_objects.specs.Records.{super_value, inode_value, entry_value, read_super, read_inode, read_entry, IsInode}
use Rattle.kfs_objects.specs.Forms.{SpellsKey}
use Rattle.kfs_objects.specs.declared.keys.ObjectKey.{ObjectKey}

-- what is written is read back
pub record ReadBack : Type 0 where
  pub supers : (changes next : ℕ) → changes < 2 ^ 63 → next < 2 ^ 63 → read_super (super_value changes next) ≡ Some (changes, next)
  pub inodes : (kind size : ℕ) → IsInode kind size → size < 2 ^ 64 → read_inode (inode_value kind size) ≡ Some (kind, size)
  pub entries : (node : ℕ) → node < 2 ^ 64 → read_entry (entry_value node) ≡ Some node

-- no bytes spell two objects' keys
abbrev pub OneKey : Type 0
OneKey = (key : List ℕ) (form other : ObjectKey) → SpellsKey key form → SpellsKey key other → form ≡ other
