-- A name is taken away, and its node goes, or stays without a name while it is open.
use Rattle.std.specs.Prelude.{ℕ, ◌≡◌, ◌+◌, ◌-◌, ◌==◌, ◌⊎◌, nat_lt, Bool, true, false, not, ◌||◌, List, length, Option, Some, None, Result, Ok, Err, if◌then◌else◌}
use Rattle.std.specs.List.{list_any}
use Rattle.std.specs.Str.{bytes_eq}
use Rattle.kv_device.specs.declared.fault.DeviceFault.{DeviceFault}
use Rattle.kv_device.specs.Machine.{Machine}
use Rattle.kv_device.specs.Objects.{Objects}
use Rattle.kfs_objects.specs.Keys.{be64, inode_key, entry_key, orphan_key}
use Rattle.kfs_objects.specs.Records.{orphan_value}
use Rattle.kfs_path.specs.declared.call.Errno.{Errno}
use Rattle.kfs_path.specs.declared.call.Errno.TheVariants.{ENOENT, ENOTDIR, EPERM, EBUSY, EINVAL, ENOTEMPTY, EFBIG}
use Rattle.kfs_model.specs.Ladder.{◌>>=◌, ◌>>◌, ◌when◌}
pub use Rattle.kfs_model.specs.Tree.{chunks_for}
use Rattle.kfs_model.specs.Tree.{greatest_length, is_dot, is_dot_dot}
use Rattle.kfs_model.specs.Step.{Route, is_root, ends_by, ends_in_dots}
use Rattle.kfs_tx.specs.Tx.{Tx, put_in, deleted_in, one_change, GetFault, ChangeFault}
use Rattle.kfs_dir.specs.Directory.{names_under}
use Rattle.kfs_file.specs.Contents.{RemovesChunks, ChangesAtMost, FailsWithin}
use Rattle.kfs_core.specs.declared.fault.CoreFault.{CoreFault}
use Rattle.kfs_core.specs.declared.fault.CoreFault.TheVariants.{No, Device}
pub use Rattle.kfs_core.specs.declared.removing.Leaf.{Leaf}
use Rattle.kfs_core.specs.Core.{KfsState, tx_in, Stays, Same}
use Rattle.kfs_core.specs.Flat.{Where, at_root, walk_in, found_in}
use Rattle.kfs_core.specs.Making.{parent_of}

-- whether the list of open nodes, each in 8 bytes, has the node
abbrev pub is_open_in : List (List ℕ) → ℕ → Bool
is_open_in open_nodes n = list_any (λ x. bytes_eq x (be64 n)) open_nodes

-- ---- judges

-- what a walk found, as the entry of a node of so many bytes
abbrev pub leaf_at : Where → ℕ → ℕ → Leaf
leaf_at w n size = record { parent = parent_of w; name = w.name; node = n; size = size }

-- a directory has a name in it
abbrev pub has_names : Objects → ℕ → Bool
has_names m n = not (length (names_under m n) == 0)

-- a file to be removed; no tree's file is longer than the greatest length
abbrev pub file_to_go : Where → Option (ℕ × ℕ × ℕ) → Bool → Result Leaf Errno
file_to_go w None trailing = Err ENOENT
file_to_go w (Some (n, kind, size)) trailing = do
  EPERM when (kind == 1)
  ENOTDIR when trailing
  EFBIG when nat_lt greatest_length size
  Ok (leaf_at w n size)

abbrev pub unlink_in : Objects → Route → Result Leaf Errno
unlink_in m route = do
  EPERM when (ends_in_dots route.pieces || is_root route.pieces)
  w ← walk_in m at_root route.pieces
  file_to_go w (found_in m w.node) route.trailing

-- a directory to be removed
abbrev pub dir_to_go : Objects → Where → Option (ℕ × ℕ × ℕ) → Result Leaf Errno
dir_to_go m w None = Err ENOENT
dir_to_go m w (Some (n, kind, size)) = do
  ENOTDIR when not (kind == 1)
  ENOTEMPTY when has_names m n
  Ok (leaf_at w n 0)

abbrev pub rmdir_in : Objects → Route → Result Leaf Errno
rmdir_in m route = do
  EINVAL when ends_by is_dot route.pieces
  ENOTEMPTY when ends_by is_dot_dot route.pieces
  EBUSY when is_root route.pieces
  w ← walk_in m at_root route.pieces
  dir_to_go m w (found_in m w.node)

-- a node that is to go, by its inode: its length
abbrev pub release_at : Option (ℕ × ℕ) → Result ℕ Errno
release_at None = Err ENOENT
release_at (Some (kind, size)) = (EFBIG when nat_lt greatest_length size) >> Ok size

-- the node that was judged is the one that is told
abbrev pub TellsNode : Result Leaf Errno → ℕ → Type 0
TellsNode judged n = (leaf : Leaf) × (judged ≡ Ok leaf) × (n ≡ leaf.node)

-- ---- effects

-- a node's chunks and inode are gone
pub record Goes (old : Tx) (node size : ℕ) (new : Tx) : Type 0 where
  pub mid : Tx
  pub chunks : RemovesChunks old node 0 (chunks_for size) mid
  pub few : ChangesAtMost old (chunks_for size) mid
  pub inode : new ≡ deleted_in mid (inode_key node)

-- a node that lost its name gets an orphan object where it is open, else it goes
abbrev pub Loses : Tx → ℕ → ℕ → Bool → Tx → Type 0
Loses old node size true new = new ≡ put_in old (orphan_key node) orphan_value
Loses old node size false new = Goes old node size new

-- the entry is taken away, and its node loses its name
abbrev pub Unnames : Tx → Leaf → Bool → Tx → Type 0
Unnames old leaf open_now new = Loses (deleted_in old (entry_key leaf.parent leaf.name)) leaf.node leaf.size open_now new

-- the chunks, and the keys of the charge, that go with the node
abbrev pub chunks_lost : ℕ → Bool → ℕ
chunks_lost size open_now = if open_now then 0 else chunks_for size

abbrev pub chunks_gone : Leaf → Bool → ℕ
chunks_gone leaf open_now = chunks_lost leaf.size open_now

abbrev pub keys_gone : Leaf → Bool → ℕ
keys_gone leaf open_now = if open_now then 0 else 2 + chunks_for leaf.size

-- the same, as one change
pub record Unlinks (old : Tx) (leaf : Leaf) (open_now : Bool) (new : Tx) : Type 0 where
  pub mid : Tx
  pub unnames : Unnames old leaf open_now mid
  pub change : new ≡ one_change mid (4 + chunks_gone leaf open_now) mid.next

-- in the middle, or where the change was counted
abbrev pub UnlinkFault : Tx → Leaf → Bool → DeviceFault → Machine → Type 0
UnlinkFault old leaf open_now fault new =
    FailsWithin old (2 + chunks_gone leaf open_now) fault new
    ⊎ ((mid : Tx) × Unnames old leaf open_now mid × ChangeFault mid (4 + chunks_gone leaf open_now) mid.next fault new)

-- so many keys and chunks fewer are taken
abbrev pub Frees : KfsState → ℕ → ℕ → KfsState → Type 0
Frees old keys chunks new = new ≡ record old { running = new.running; charge = old.charge - keys; chunks = old.chunks - chunks }

-- a name was taken away
pub record Unlinked (old : KfsState) (judged : Result Leaf Errno) (is_open : ℕ → Bool) (new : KfsState) : Type 0 where
  pub leaf : Leaf
  pub judge : judged ≡ Ok leaf
  pub effect : Unlinks (tx_in old) leaf (is_open leaf.node) (tx_in new)
  pub frees : Frees old (keys_gone leaf (is_open leaf.node)) (chunks_gone leaf (is_open leaf.node)) new

abbrev pub UnlinkFails : KfsState → Result Leaf Errno → (ℕ → Bool) → CoreFault → KfsState → Type 0
UnlinkFails old judged is_open (No e) new = (judged ≡ Err e) × Same old new
UnlinkFails old judged is_open (Device fault) new =
    Stays old new × (GetFault (tx_in old) fault (tx_in new).machine ⊎ ((leaf : Leaf) × (judged ≡ Ok leaf) × UnlinkFault (tx_in old) leaf (is_open leaf.node) fault (tx_in new).machine))

-- what taking a name away did: the judge over the objects, the effect, and what is free then
abbrev pub UnlinkDoes : {X : Type 0} → KfsState → Result Leaf Errno → (ℕ → Bool) → Result X CoreFault → KfsState → Type 0
UnlinkDoes old judged is_open (Ok x) new = Unlinked old judged is_open new
UnlinkDoes old judged is_open (Err fault) new = UnlinkFails old judged is_open fault new

-- ---- a node without a name

-- it goes with its orphan object, as one change
pub record Releases (old : Tx) (node size : ℕ) (new : Tx) : Type 0 where
  pub mid : Tx
  pub goes : Goes old node size mid
  pub change : new ≡ one_change (deleted_in mid (orphan_key node)) (4 + chunks_for size) mid.next

abbrev pub ReleaseFault : Tx → ℕ → ℕ → DeviceFault → Machine → Type 0
ReleaseFault old node size fault new =
    FailsWithin old (2 + chunks_for size) fault new
    ⊎ ((mid : Tx) × Goes old node size mid × ChangeFault (deleted_in mid (orphan_key node)) (4 + chunks_for size) mid.next fault new)

pub record Released (old : KfsState) (node : ℕ) (judged : Result ℕ Errno) (new : KfsState) : Type 0 where
  pub size : ℕ
  pub judge : judged ≡ Ok size
  pub effect : Releases (tx_in old) node size (tx_in new)
  pub frees : Frees old (2 + chunks_for size) (chunks_for size) new

abbrev pub ReleaseFails : KfsState → ℕ → Result ℕ Errno → CoreFault → KfsState → Type 0
ReleaseFails old node judged (No e) new = (judged ≡ Err e) × Same old new
ReleaseFails old node judged (Device fault) new =
    Stays old new × (GetFault (tx_in old) fault (tx_in new).machine ⊎ ((size : ℕ) × (judged ≡ Ok size) × ReleaseFault (tx_in old) node size fault (tx_in new).machine))

-- what a release did: the judge over the objects, the effect, and what is free then
abbrev pub ReleaseDoes : {X : Type 0} → KfsState → ℕ → Result ℕ Errno → Result X CoreFault → KfsState → Type 0
ReleaseDoes old node judged (Ok x) new = Released old node judged new
ReleaseDoes old node judged (Err fault) new = ReleaseFails old node judged fault new
