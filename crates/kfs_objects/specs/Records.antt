-- The values of the objects. What doesn't read is as good as absent.
use Rattle.std.specs.Prelude.{ℕ, ◌≡◌, ◌<◌, ◌⊎◌, ◌^◌, ◌&&◌, ◌||◌, ◌==◌, nat_lt, List, [], ◌∷◌, ◌++◌, length, take, drop, Option, Some, None, if◌then◌else◌}
use Rattle.std.specs.Int.{w64, from_be_bytes}
use Rattle.kfs_objects.specs.Keys.{be64}

abbrev pub super_value : ℕ → ℕ → List ℕ
super_value changes next = 1 ∷ (be64 changes ++ be64 next)

abbrev pub inode_value : ℕ → ℕ → List ℕ
inode_value kind size = 1 ∷ kind ∷ be64 size

abbrev pub entry_value : ℕ → List ℕ
entry_value node = 1 ∷ be64 node

abbrev pub orphan_value : List ℕ
orphan_value = 1 ∷ []

-- a super's numbers are below 2^63
abbrev pub read_super : List ℕ → Option (ℕ × ℕ)
read_super [] = None
read_super (version ∷ bytes) =
    let changes = from_be_bytes w64 (take 8 bytes) in
    let next = from_be_bytes w64 (drop 8 bytes) in
    if version == 1 && length bytes == 16 && nat_lt changes (2 ^ 63) && nat_lt next (2 ^ 63) then Some (changes, next) else None

abbrev pub read_inode : List ℕ → Option (ℕ × ℕ)
read_inode [] = None
read_inode (version ∷ []) = None
read_inode (version ∷ kind ∷ bytes) =
    let size = from_be_bytes w64 bytes in
    if version == 1 && length bytes == 8 && (kind == 2 || (kind == 1 && size == 0)) then Some (kind, size) else None

abbrev pub read_entry : List ℕ → Option ℕ
read_entry [] = None
read_entry (version ∷ bytes) = if version == 1 && length bytes == 8 then Some (from_be_bytes w64 bytes) else None

-- a directory has length 0
abbrev pub IsInode : ℕ → ℕ → Type 0
IsInode kind size = (kind ≡ 2) ⊎ ((kind ≡ 1) × (size ≡ 0))

-- which bytes spell which record
pub record SpellsSuper (bytes : List ℕ) (changes next : ℕ) : Type 0 where
  pub changes_low : changes < 2 ^ 63
  pub next_low : next < 2 ^ 63
  pub same : bytes ≡ super_value changes next

pub record SpellsInode (bytes : List ℕ) (kind size : ℕ) : Type 0 where
  pub form : IsInode kind size
  pub low : size < 2 ^ 64
  pub same : bytes ≡ inode_value kind size

pub record SpellsEntry (bytes : List ℕ) (node : ℕ) : Type 0 where
  pub low : node < 2 ^ 64
  pub same : bytes ≡ entry_value node
