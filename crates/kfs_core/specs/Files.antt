-- Reading a file, and writing into it, over the objects.
use Rattle.std.specs.Prelude.{ℕ, ◌≡◌, ◌+◌, ◌-◌, ◌⊎◌, ◌==◌, nat_lt, nat_le, List, length, take, Option, Some, None, Result, Ok, Err}
use Rattle.kv_device.specs.declared.fault.DeviceFault.{DeviceFault}
use Rattle.kv_device.specs.Objects.{Objects}
use Rattle.kv_device.specs.Machine.{Machine}
use Rattle.kfs_objects.specs.Keys.{inode_key}
use Rattle.kfs_objects.specs.Records.{inode_value}
use Rattle.kfs_path.specs.declared.call.Errno.{Errno}
use Rattle.kfs_path.specs.declared.call.Errno.TheVariants.{ENOENT, EISDIR, EFBIG, ENOSPC}
use Rattle.kfs_model.specs.Ladder.{◌>>=◌, ◌>>◌, ◌when◌}
use Rattle.kfs_model.specs.Tree.{greatest_length}
use Rattle.kfs_model.specs.Change.{spanned}
use Rattle.kfs_tx.specs.Tx.{Tx, seen, put_in, one_change, PutFault, GetFault, ChangeFault}
use Rattle.kfs_file.specs.Contents.{WritesFile, ReadsFile, ChangesAtMost, FailsWithin, touched}
use Rattle.kfs_core.specs.declared.fault.CoreFault.{CoreFault}
use Rattle.kfs_core.specs.declared.fault.CoreFault.TheVariants.{No, Device}
use Rattle.kfs_core.specs.declared.room.Space.{Space}
use Rattle.kfs_core.specs.Core.{KfsState, tx_in, Stays, Takes, Same}
use Rattle.kfs_core.specs.Flat.{inode_in}
use Rattle.kfs_core.specs.Returned.{RefusesAs}
use Rattle.kfs_core.specs.Room.{space_in, chunks_for, fits_in, grown}

-- the length of a file, by its inode
abbrev pub file_at : Option (ℕ × ℕ) → Result ℕ Errno
file_at None = Err ENOENT
file_at (Some (kind, size)) = do
  EISDIR when (kind == 1)
  EFBIG when nat_lt greatest_length size
  Ok size

-- what reading gave
abbrev pub Reads : Objects → ℕ → ℕ → ℕ → Result (List ℕ) CoreFault → Type 0
Reads m node offset count (Ok text) = (size : ℕ) × (file_at (inode_in m node) ≡ Ok size) × ReadsFile m node size offset count text
Reads m node offset count (Err fault) = RefusesAs fault (file_at (inode_in m node))

-- whether some of so many bytes may be written from a place on, and the length of the file
abbrev pub write_in : Objects → Space → ℕ → ℕ → ℕ → Result ℕ Errno
write_in m space node offset count = do
  size ← file_at (inode_in m node)
  EFBIG when nat_le greatest_length offset
  ENOSPC when (fits_in space size offset count == 0)
  Ok size

-- the bytes are written into the chunks that hold them
pub record PutsBytes (old : Tx) (node offset : ℕ) (given : List ℕ) (new : Tx) : Type 0 where
  pub writes : WritesFile old node offset given new
  pub keys : ChangesAtMost old (touched offset (length given)) new

-- a file's inode has another length
abbrev pub with_length : Tx → ℕ → ℕ → Tx
with_length r node size = put_in r (inode_key node) (inode_value 2 size)

-- the bytes are written, the inode has the new length, and that is one change
abbrev pub Wrote : Tx → ℕ → ℕ → ℕ → List ℕ → Tx → Type 0
Wrote old node size offset given new =
    (put : Tx) × PutsBytes old node offset given put × (new ≡ one_change (with_length put node (grown size offset (length given))) (2 + spanned offset (length given)) put.next)

-- what failed of it
abbrev pub WriteFault : Tx → ℕ → ℕ → ℕ → List ℕ → DeviceFault → Machine → Type 0
WriteFault old node size offset given fault new =
    FailsWithin old (touched offset (length given)) fault new
    ⊎ ((put : Tx) × PutsBytes old node offset given put × (
    PutFault put (inode_key node) (inode_value 2 (grown size offset (length given))) fault new
    ⊎ ChangeFault (with_length put node (grown size offset (length given))) (2 + spanned offset (length given)) put.next fault new))

abbrev pub WriteFails : KfsState → ℕ → ℕ → List ℕ → CoreFault → KfsState → Type 0
WriteFails old node offset given (No e) new = (write_in (seen (tx_in old)) (space_in old) node offset (length given) ≡ Err e) × Same old new
WriteFails old node offset given (Device fault) new =
    Stays old new × (
    GetFault (tx_in old) fault (tx_in new).machine
    ⊎ ((size : ℕ) × (write_in (seen (tx_in old)) (space_in old) node offset (length given) ≡ Ok size) × WriteFault (tx_in old) node size offset (take (fits_in (space_in old) size offset (length given)) given) fault (tx_in new).machine))

-- what writing did: the judge over the objects, as many bytes as fit, and the chunks that come
abbrev pub WriteDoes : KfsState → ℕ → ℕ → List ℕ → Result ℕ CoreFault → KfsState → Type 0
WriteDoes old node offset given (Ok n) new =
    (size : ℕ) × (write_in (seen (tx_in old)) (space_in old) node offset (length given) ≡ Ok size)
    × (n ≡ fits_in (space_in old) size offset (length given))
    × Wrote (tx_in old) node size offset (take n given) (tx_in new)
    × Takes old (chunks_for (grown size offset n) - chunks_for size) new
WriteDoes old node offset given (Err fault) new = WriteFails old node offset given fault new
