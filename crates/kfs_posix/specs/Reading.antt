-- Reading from a descriptor, over the objects and the open files.
use Rattle.std.specs.Prelude.{ℕ, ◌≡◌, ◌+◌, ◌-◌, ◌^◌, ◌⊎◌, not, min, nat_lt, List, length, Result, Ok, Err, ℤ}
use Rattle.kv_device.specs.Objects.{Objects}
use Rattle.kfs_path.specs.declared.call.Errno.{Errno}
use Rattle.kfs_path.specs.declared.call.Errno.TheVariants.{EBADF, EISDIR, EINVAL}
use Rattle.kfs_model.specs.Ladder.{◌>>=◌, ◌>>◌, ◌when◌}
use Rattle.kfs_model.specs.Step.{or_else, greatest_count, is_negative}
use Rattle.kfs_core.specs.declared.fault.CoreFault.{CoreFault}
use Rattle.kfs_core.specs.declared.fault.CoreFault.TheVariants.{No, Device}
use Rattle.kfs_core.specs.Files.{Reads}
use Rattle.kfs_posix.specs.declared.open_files.OpenFile.{OpenFile}
use Rattle.kfs_posix.specs.Opens.{Opens, open_at, with_file}
use Rattle.kfs_posix.specs.Turning.{at_offset}

-- the open file from which so many bytes may be read
abbrev pub readable_in : Opens → ℕ → ℕ → Result (ℕ × OpenFile) Errno
readable_in o fd count = do
  it ← or_else (open_at o fd) EBADF
  EBADF when not it.1.it.read
  EISDIR when not it.1.file
  EINVAL when nat_lt greatest_count count
  Ok it

-- the same at a given place
abbrev pub readable_at : Opens → ℕ → ℕ → ℤ → Result (ℕ × OpenFile) Errno
readable_at o fd count offset = do
  it ← readable_in o fd count
  EINVAL when is_negative offset
  Ok it

-- refused by the judge, or by the file
abbrev pub ReadRefuses : Objects → Result (ℕ × OpenFile) Errno → (OpenFile → ℕ) → ℕ → CoreFault → Type 0
ReadRefuses m judged from count (No e) = (judged ≡ Err e) ⊎ ((it : ℕ × OpenFile) × (judged ≡ Ok it) × Reads m it.1.it.node (from it.1) count (Err (No e)))
ReadRefuses m judged from count (Device fault) = Unit {0}

-- what reading from the offset did
abbrev pub ReadDoes : Objects → Opens → Result (ℕ × OpenFile) Errno → ℕ → Result (List ℕ) CoreFault → Opens → Type 0
ReadDoes m o judged count (Ok text) new =
    (it : ℕ × OpenFile) × (judged ≡ Ok it) × Reads m it.1.it.node it.1.it.offset count (Ok text)
    × (new ≡ with_file o it.0 (at_offset it.1 (min (it.1.it.offset + length text) (2 ^ 64 - 1))))
ReadDoes m o judged count (Err fault) new = ReadRefuses m judged (λ file. file.it.offset) count fault × (new ≡ o)

-- what reading from a given place gives
abbrev pub PreadDoes : Objects → Result (ℕ × OpenFile) Errno → ℕ → ℕ → Result (List ℕ) CoreFault → Type 0
PreadDoes m judged place count (Ok text) = (it : ℕ × OpenFile) × (judged ≡ Ok it) × Reads m it.1.it.node place count (Ok text)
PreadDoes m judged place count (Err fault) = ReadRefuses m judged (λ file. place) count fault
