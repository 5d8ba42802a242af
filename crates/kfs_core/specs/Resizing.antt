-- A file's new length.
use Rattle.std.specs.Prelude.{ℕ, ◌≡◌, ◌+◌, ◌-◌, ◌/◌, ◌==◌, ◌⊎◌, nat_lt, nat_le, Bool, true, false, not, ◌&&◌, Result, Ok, Err, if◌then◌else◌}
use Rattle.kv_device.specs.declared.fault.DeviceFault.{DeviceFault}
use Rattle.kv_device.specs.Machine.{Machine}
use Rattle.kv_device.specs.Objects.{Objects}
use Rattle.kfs_objects.specs.Keys.{inode_key}
use Rattle.kfs_objects.specs.Records.{inode_value}
use Rattle.kfs_path.specs.declared.call.Errno.{Errno}
use Rattle.kfs_path.specs.declared.call.Errno.TheVariants.{EFBIG, ENOSPC}
use Rattle.kfs_model.specs.Ladder.{◌>>=◌, ◌>>◌, ◌when◌}
use Rattle.kfs_model.specs.Tree.{greatest_length, chunk_bytes}
use Rattle.kfs_tx.specs.Tx.{Tx, seen, one_change, PutFault, GetFault, ChangeFault}
use Rattle.kfs_file.specs.Contents.{ResizesFile, ChangesAtMost, FailsWithin}
use Rattle.kfs_core.specs.declared.fault.CoreFault.{CoreFault}
use Rattle.kfs_core.specs.declared.fault.CoreFault.TheVariants.{No, Device}
use Rattle.kfs_core.specs.declared.room.Space.{Space}
use Rattle.kfs_core.specs.Core.{KfsState, tx_in, Stays, Same}
use Rattle.kfs_core.specs.Flat.{inode_in}
use Rattle.kfs_core.specs.Files.{file_at, with_length}
use Rattle.kfs_core.specs.Room.{space_in, chunks_for}

-- whether a length in place of another leaves room
abbrev pub resized_fits : Space → ℕ → ℕ → Bool
resized_fits space old new = nat_le (space.charge + chunks_for new - chunks_for old) space.keys && nat_le (space.chunks + chunks_for new - chunks_for old) space.pages

-- the old length, where the new one may take its place
abbrev pub resize_in : Objects → Space → ℕ → ℕ → Result ℕ Errno
resize_in m space node length = do
  size ← file_at (inode_in m node)
  EFBIG when nat_lt greatest_length length
  ENOSPC when not (resized_fits space size length)
  Ok size

-- the keys of chunks that change, from a length to another
abbrev pub keys_cut : ℕ → ℕ → ℕ
keys_cut old new = if nat_lt new old then chunks_for old - new / chunk_bytes else 0

-- the weight of that change
abbrev pub resize_weight : ℕ → ℕ → ℕ
resize_weight old new = 2 + keys_cut old new

-- the chunks are those of the new length
pub record PutsLength (old : Tx) (node size length : ℕ) (new : Tx) : Type 0 where
  pub resizes : ResizesFile old node size length new
  pub keys : ChangesAtMost old (keys_cut size length) new

-- and so is the inode, as one change
abbrev pub Resizes : Tx → ℕ → ℕ → ℕ → Tx → Type 0
Resizes old node size length new =
    (put : Tx) × PutsLength old node size length put × (new ≡ one_change (with_length put node length) (resize_weight size length) put.next)

-- what failed of it
abbrev pub ResizeFault : Tx → ℕ → ℕ → ℕ → DeviceFault → Machine → Type 0
ResizeFault old node size length fault new =
    FailsWithin old (keys_cut size length) fault new
    ⊎ ((put : Tx) × PutsLength old node size length put × (
    PutFault put (inode_key node) (inode_value 2 length) fault new
    ⊎ ChangeFault (with_length put node length) (resize_weight size length) put.next fault new))

-- the chunks that are taken after it
abbrev pub Regrows : KfsState → ℕ → ℕ → KfsState → Type 0
Regrows old size length new = new ≡ record old { running = new.running; charge = old.charge + chunks_for length - chunks_for size; chunks = old.chunks + chunks_for length - chunks_for size }

-- nothing changes where the length stays
abbrev pub ResizesTo : Bool → KfsState → ℕ → ℕ → ℕ → KfsState → Type 0
ResizesTo true old node size length new = Same old new
ResizesTo false old node size length new = Resizes (tx_in old) node size length (tx_in new) × Regrows old size length new

abbrev pub ResizeFails : KfsState → ℕ → ℕ → CoreFault → KfsState → Type 0
ResizeFails old node length (No e) new = (resize_in (seen (tx_in old)) (space_in old) node length ≡ Err e) × Same old new
ResizeFails old node length (Device fault) new =
    Stays old new × (
    GetFault (tx_in old) fault (tx_in new).machine
    ⊎ ((size : ℕ) × (resize_in (seen (tx_in old)) (space_in old) node length ≡ Ok size) × ((size == length) ≡ false) × ResizeFault (tx_in old) node size length fault (tx_in new).machine))

-- what giving a file a length did: the judge over the objects, the effect, and the chunks
abbrev pub ResizeDoes : {X : Type 0} → KfsState → ℕ → ℕ → Result X CoreFault → KfsState → Type 0
ResizeDoes old node length (Ok x) new = (size : ℕ) × (resize_in (seen (tx_in old)) (space_in old) node length ≡ Ok size) × ResizesTo (size == length) old node size length new
ResizeDoes old node length (Err fault) new = ResizeFails old node length fault new
