-- What a mount refuses of the objects of a device: the first kind that applies, and its place.
use Rattle.std.specs.Prelude.{ℕ, Bool, ◌≡◌, ◌≢◌, ◌⊎◌, ◌<◌, ◌≤◌, ◌+◌, ◌*◌, ◌/◌, ◌^◌, List, ◌∷◌, length, drop, slice_get, sum_by, Option, Some, None, is_some, IsSome, if◌then◌else◌}
use Rattle.std.specs.Option.{option_and_then, option_map_or, unwrap_or}
use Rattle.std.specs.FinMap as objects
use Rattle.kv_base.specs.declared.damage.Damage.{Damage}
use Rattle.kv_base.specs.declared.damage.Damage.TheVariants as damages
use Rattle.kv_device.specs.Objects.{Objects, pairs_from}
use Rattle.kfs_objects.specs.Keys.{super_key, inode_front, inode_key, entry_key, chunk_key, orphan_key, IsObjectKey}
use Rattle.kfs_objects.specs.Records.{read_super, read_inode, read_entry, orphan_value}
use Rattle.kfs_model.specs.Tree.{Name, IsName, IsShort, Limits, greatest_length}

-- ---- what is read

-- the changes and the next node, where the super is there and reads
abbrev pub head_in : Objects → Option (ℕ × ℕ)
head_in m = option_and_then read_super (objects.get m super_key)

-- the next node
abbrev pub next_in : Objects → ℕ
next_in m = option_map_or (λ (head : ℕ × ℕ). head.1) (head_in m) 0

-- the kind and the length of a node, where its inode is there and reads
abbrev pub inode_of : Objects → ℕ → Option (ℕ × ℕ)
inode_of m n = option_and_then read_inode (objects.get m (inode_key n))

-- an entry stands under this name in this node
pub record IsEntry (m : Objects) (parent : ℕ) (name : Name) (value : List ℕ) : Type 0 where
  pub low : parent < 2 ^ 64
  pub short : IsShort name
  pub there : objects.get m (entry_key parent name) ≡ Some value

-- the node that an entry names; one that doesn't read counts as naming its parent
abbrev pub names : ℕ → List ℕ → ℕ
names parent value = unwrap_or (read_entry value) parent

-- an entry names the node
pub record IsNamed (m : Objects) (n : ℕ) : Type 0 where
  pub parent : ℕ
  pub name : Name
  pub value : List ℕ
  pub entry : IsEntry m parent name value
  pub is : names parent value ≡ n

-- the root, and what is reached along entries that read
pub data IsReached (m : Objects) : ℕ → Type 0 where
  is_root : IsReached m 1
  is_below : (parent : ℕ) (name : Name) (value : List ℕ) (n : ℕ) → IsReached m parent → IsEntry m parent name value → read_entry value ≡ Some n → IsReached m n

-- ---- what is damaged

-- the super is there, reads, and its numbers are far from their end
pub record HasHead (m : Objects) : Type 0 where
  pub changes : ℕ
  pub next : ℕ
  pub reads : head_in m ≡ Some (changes, next)
  pub few : changes < 2 ^ 62
  pub low : next < 2 ^ 62

-- the n-th key by rising keys is of no form
pub record IsBadObject (m : Objects) (n : ℕ) : Type 0 where
  pub key : List ℕ
  pub value : List ℕ
  pub here : slice_get (objects.entries m) n ≡ Some (key, value)
  pub formless : IsObjectKey key → ⊥

-- what may be wrong with an inode: it doesn't read, it is of no node that was made yet, or it is longer than a file may be; and the root is a directory
pub data IsBadInode (m : Objects) (n : ℕ) : Type 0 where
  unread : IsSome (objects.get m (inode_key n)) → inode_of m n ≡ None → IsBadInode m n
  high : IsSome (objects.get m (inode_key n)) → next_in m ≤ n → IsBadInode m n
  zero : IsSome (objects.get m (inode_key n)) → n ≡ 0 → IsBadInode m n
  long : (kind size : ℕ) → inode_of m n ≡ Some (kind, size) → greatest_length < size → IsBadInode m n
  root : n ≡ 1 → inode_of m 1 ≢ Some (1, 0) → IsBadInode m n

-- what may be wrong with an entry: it doesn't read, its parent is no directory, or its name is none
pub data IsWrong (m : Objects) (parent : ℕ) (name : Name) (value : List ℕ) : Type 0 where
  unread : read_entry value ≡ None → IsWrong m parent name value
  parentless : inode_of m parent ≢ Some (1, 0) → IsWrong m parent name value
  nameless : (IsName name → ⊥) → IsWrong m parent name value

-- what may be wrong with the names of a node: an entry of it is wrong, it has a name and no inode, two names, an inode and neither a name nor an orphan object, or both, or a name and no way from the root; and the root has none
pub data IsBadEntry (m : Objects) (n : ℕ) : Type 0 where
  wrong : (parent : ℕ) (name : Name) (value : List ℕ) → IsEntry m parent name value → names parent value ≡ n → IsWrong m parent name value → IsBadEntry m n
  missing : IsNamed m n → objects.get m (inode_key n) ≡ None → IsBadEntry m n
  twice : (one other : IsNamed m n) → (one.parent ≡ other.parent → one.name ≡ other.name → ⊥) → IsBadEntry m n
  root : n ≡ 1 → IsNamed m 1 → IsBadEntry m n
  lost : IsSome (objects.get m (inode_key n)) → n ≢ 1 → (IsNamed m n → ⊥) → objects.get m (orphan_key n) ≡ None → IsBadEntry m n
  both : n ≢ 1 → IsNamed m n → IsSome (objects.get m (orphan_key n)) → IsBadEntry m n
  apart : IsNamed m n → (IsReached m n → ⊥) → IsBadEntry m n

-- what may be wrong with a chunk: its node is no file, it is empty, or it reaches past the length
pub data IsWrongChunk (chunk : ℕ) (value : List ℕ) : Option (ℕ × ℕ) → Type 0 where
  nowhere : IsWrongChunk chunk value None
  kind_is : (kind size : ℕ) → kind ≢ 2 → IsWrongChunk chunk value (Some (kind, size))
  empty : (node : Option (ℕ × ℕ)) → length value ≡ 0 → IsWrongChunk chunk value node
  past : (kind size : ℕ) → size < 4096 * chunk + length value → IsWrongChunk chunk value (Some (kind, size))

-- the node has a chunk that is wrong
pub record IsBadChunk (m : Objects) (n : ℕ) : Type 0 where
  pub chunk : ℕ
  pub value : List ℕ
  pub low : chunk < 2 ^ 32
  pub there : objects.get m (chunk_key n chunk) ≡ Some value
  pub wrong : IsWrongChunk chunk value (inode_of m n)

-- the node has an orphan object which doesn't read, or no inode, or it is the root
pub record IsBadOrphan (m : Objects) (n : ℕ) : Type 0 where
  pub value : List ℕ
  pub there : objects.get m (orphan_key n) ≡ Some value
  pub wrong : (value ≢ orphan_value) ⊎ (objects.get m (inode_key n) ≡ None) ⊎ (n ≡ 1)

-- ---- room

-- the keys that a node takes, and its chunks
abbrev pub keys_of : Option (ℕ × ℕ) → ℕ
keys_of None = 0
keys_of (Some (kind, size)) = 2 + (size + 4095) / 4096

abbrev pub chunks_of : Option (ℕ × ℕ) → ℕ
chunks_of None = 0
chunks_of (Some (kind, size)) = (size + 4095) / 4096

-- whether the node of this inode's key has an orphan object
abbrev pub is_orphan : Objects → List ℕ → Bool
is_orphan m key = is_some (objects.get m (111 ∷ drop 1 key))

-- a sum over the inodes of nodes without an orphan object
abbrev pub sum_named : (Option (ℕ × ℕ) → ℕ) → Objects → ℕ
sum_named weight m = sum_by (λ e. if is_orphan m e.0 then 0 else weight (read_inode e.1)) (pairs_from m inode_front inode_front)

-- the charge of the nodes that have names, and their chunks
unfoldable pub named_charge : Objects → ℕ
named_charge m = 1 + sum_named keys_of m

unfoldable pub named_chunks : Objects → ℕ
named_chunks m = sum_named chunks_of m

-- they are within the limits
pub record HasRoom (k : Limits) (m : Objects) : Type 0 where
  pub charge : named_charge m ≤ k.keys
  pub chunks : named_chunks m ≤ k.pages

-- ---- the first damage

-- the least number below 2^64 of which something holds
pub record IsLeast (Holds : ℕ → Type 0) (n : ℕ) : Type 0 where
  pub low : n < 2 ^ 64
  pub here : Holds n
  pub earlier : (k : ℕ) → k < n → Holds k → ⊥

-- damage of one kind, at the least place that has it
pub record IsAt (kind : ℕ → Damage) (Holds : ℕ → Type 0) (damage : Damage) : Type 0 where
  pub place : ℕ
  pub is : damage ≡ kind place
  pub least : IsLeast Holds place

-- no number below 2^64 has it
abbrev pub None_ : (ℕ → Type 0) → Type 0
None_ Holds = (n : ℕ) → n < 2 ^ 64 → Holds n → ⊥

-- damage of a kind, or, where nothing of that kind is there, of those after it
abbrev pub Else : (Damage → Type 0) → Type 0 → (Damage → Type 0) → Damage → Type 0
Else Here Clear Later damage = Here damage ⊎ (Clear × Later damage)

-- the super is damaged
abbrev pub IsBadHead : Objects → Damage → Type 0
IsBadHead m damage = (damage ≡ damages.Super 0) × (HasHead m → ⊥)

-- there is no room for the nodes that have names
abbrev pub IsBadRoom : Limits → Objects → Damage → Type 0
IsBadRoom k m damage = (damage ≡ damages.Room (named_charge m)) × (HasRoom k m → ⊥)

-- the first damage that applies to the objects of a device with so much room
abbrev pub IsTreeDamage : Limits → Objects → Damage → Type 0
IsTreeDamage k m =
    Else (IsBadHead m) (HasHead m)
    (Else (IsAt damages.Object (IsBadObject m)) (None_ (IsBadObject m))
    (Else (IsAt damages.Inode (IsBadInode m)) (None_ (IsBadInode m))
    (Else (IsAt damages.Entry (IsBadEntry m)) (None_ (IsBadEntry m))
    (Else (IsAt damages.Chunk (IsBadChunk m)) (None_ (IsBadChunk m))
    (Else (IsAt damages.Orphan (IsBadOrphan m)) (None_ (IsBadOrphan m))
    (IsBadRoom k m))))))

-- nothing is damaged
pub record IsClear (k : Limits) (m : Objects) : Type 0 where
  pub head : HasHead m
  pub objects_are : None_ (IsBadObject m)
  pub inodes : None_ (IsBadInode m)
  pub entries : None_ (IsBadEntry m)
  pub chunks : None_ (IsBadChunk m)
  pub orphans : None_ (IsBadOrphan m)
  pub room : HasRoom k m
