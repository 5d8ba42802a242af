-- What the rows say together: tables of nodes, and the least node that a row accuses.
use Rattle.std.specs.Prelude.{ℕ, ◌≡◌, ◌≤◌, ◌+◌, ◌/◌, ◌==◌, ◌&&◌, ◌||◌, not, Bool, true, false, min, nat_le, nat_lt, is_none, unwrap_or, if◌then◌else◌, List, [], ◌∷◌, slice_get, Option, Some, None}
use Rattle.std.specs.Option.{option_and_then}
use Rattle.std.specs.List.{list_any}
use Rattle.std.specs.Ordering.{nat_cmp}
use Rattle.std.specs.BTreeMap.{get}
use Rattle.std.specs.BTreeSet.{contains}
use Rattle.kfs_objects.specs.declared.records.Inode.{Inode}
use Rattle.kfs_model.specs.Tree.{greatest_length}
use Rattle.kfs_judge.specs.declared.row.Row.{Row}
use Rattle.kfs_judge.specs.declared.row.Row.TheVariants as rows
use Rattle.kfs_judge.specs.declared.tables.Tables.{Tables}

-- ---- what one row says of a node

-- its inode
abbrev pub inode_row : ℕ → Row → Option (Option Inode)
inode_row n (rows.Inode node inode) = if node == n then Some inode else None
inode_row n row = None

-- that it has an orphan object
abbrev pub orphan_row : ℕ → Row → Bool
orphan_row n (rows.Orphan node reads) = node == n
orphan_row n row = false

-- that an entry names it; one that doesn't read counts as naming its parent
abbrev pub named_row : ℕ → Row → Bool
named_row n (rows.Entry parent child is_name) = unwrap_or child parent == n
named_row n row = false

-- ---- and all rows

-- the first where there is one, else the second
abbrev pub or_else : {A : Type 0} → Option A → Option A → Option A
or_else (Some a) o = Some a
or_else None o = o

-- what the last row that says anything says
abbrev pub recent : {A : Type 0} → (Row → Option A) → List Row → Option A
recent f [] = None
recent f (row ∷ rs) = or_else (recent f rs) (f row)

-- whether two rows pass the test
abbrev pub is_twice : (Row → Bool) → List Row → Bool
is_twice p [] = false
is_twice p (row ∷ rs) = (p row && list_any p rs) || is_twice p rs

-- the tables are those of the rows
pub record AreTables (rows : List Row) (t : Tables) : Type 0 where
  pub inodes : (n : ℕ) → get nat_cmp t.inodes n ≡ recent (inode_row n) rows
  pub orphans : (n : ℕ) → contains nat_cmp t.orphans n ≡ list_any (orphan_row n) rows
  pub named : (n : ℕ) → contains nat_cmp t.named n ≡ list_any (named_row n) rows
  pub twice : (n : ℕ) → contains nat_cmp t.twice n ≡ is_twice (named_row n) rows

-- one more row is noted
pub record Notes (old : Tables) (row : Row) (new : Tables) : Type 0 where
  pub inodes : (n : ℕ) → get nat_cmp new.inodes n ≡ or_else (inode_row n row) (get nat_cmp old.inodes n)
  pub orphans : (n : ℕ) → contains nat_cmp new.orphans n ≡ (orphan_row n row || contains nat_cmp old.orphans n)
  pub named : (n : ℕ) → contains nat_cmp new.named n ≡ (named_row n row || contains nat_cmp old.named n)
  pub twice : (n : ℕ) → contains nat_cmp new.twice n ≡ ((named_row n row && contains nat_cmp old.named n) || contains nat_cmp old.twice n)

-- ---- the least node that a row accuses

-- the lower of two nodes
abbrev pub lower : Option ℕ → Option ℕ → Option ℕ
lower None other = other
lower (Some n) None = Some n
lower (Some n) (Some k) = Some (min n k)

-- the least that f says of rows
pub record IsLeastOf (f : Row → Option ℕ) (rows : List Row) (least : Option ℕ) : Type 0 where
  pub found : (n : ℕ) → least ≡ Some n → (i : ℕ) × (row : Row) × (slice_get rows i ≡ Some row) × (f row ≡ Some n)
  pub all : (i k : ℕ) (row : Row) → slice_get rows i ≡ Some row → f row ≡ Some k → (n : ℕ) × (least ≡ Some n) × (n ≤ k)

-- ---- what is accused

-- the inode of a node, where it is there and reads
abbrev pub inode_at : Tables → ℕ → Option Inode
inode_at t n = option_and_then (λ i. i) (get nat_cmp t.inodes n)

-- a directory's inode
abbrev pub is_dir : Option Inode → Bool
is_dir None = false
is_dir (Some it) = it.kind == 1 && it.length == 0

abbrev pub is_bad_inode : ℕ → ℕ → Option Inode → Bool
is_bad_inode next node None = true
is_bad_inode next node (Some it) = nat_le next node || node == 0 || nat_lt greatest_length it.length

abbrev pub bad_inode : ℕ → Row → Option ℕ
bad_inode next (rows.Inode node inode) = if is_bad_inode next node inode then Some node else None
bad_inode next row = None

-- an entry is wrong, or what it names
abbrev pub is_bad_name : Tables → ℕ → Option ℕ → Bool → ℕ → Bool
is_bad_name t parent child is_name n =
    is_none child || not (is_dir (inode_at t parent)) || not is_name || is_none (get nat_cmp t.inodes n) || contains nat_cmp t.twice n || n == 1 || contains nat_cmp t.orphans n || not (contains nat_cmp t.reached n)

-- a node that isn't the root has neither a name nor an orphan object
abbrev pub is_lost : Tables → ℕ → Bool
is_lost t n = not (n == 1) && not (contains nat_cmp t.named n) && not (contains nat_cmp t.orphans n)

abbrev pub bad_entry : Tables → Row → Option ℕ
bad_entry t (rows.Entry parent child is_name) = let n = unwrap_or child parent in if is_bad_name t parent child is_name n then Some n else None
bad_entry t (rows.Inode node inode) = if is_lost t node then Some node else None
bad_entry t row = None

abbrev pub is_bad_chunk : Option Inode → ℕ → Bool → Bool
is_bad_chunk None end is_empty = true
is_bad_chunk (Some it) end is_empty = not (it.kind == 2) || is_empty || nat_lt it.length end

abbrev pub bad_chunk : Tables → Row → Option ℕ
bad_chunk t (rows.Chunk node end is_empty) = if is_bad_chunk (inode_at t node) end is_empty then Some node else None
bad_chunk t row = None

abbrev pub bad_orphan : Tables → Row → Option ℕ
bad_orphan t (rows.Orphan node reads) = if not reads || is_none (get nat_cmp t.inodes node) || node == 1 then Some node else None
bad_orphan t row = None

-- ---- room

abbrev pub chunks_for : Option Inode → ℕ
chunks_for None = 0
chunks_for (Some it) = (it.length + 4095) / 4096

abbrev pub keys_for : Option Inode → ℕ
keys_for None = 0
keys_for (Some it) = 2 + (it.length + 4095) / 4096

-- what a row's node takes, where it has no orphan object
abbrev pub taken_by : (Option Inode → ℕ) → Tables → Row → ℕ
taken_by weight t (rows.Inode node inode) = if contains nat_cmp t.orphans node then 0 else weight inode
taken_by weight t row = 0
