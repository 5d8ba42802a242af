-- Writing to a descriptor, over the objects and the open files.
use Rattle.std.specs.Prelude.{ℕ, ◌≡◌, ◌+◌, ◌-◌, ◌^◌, ◌==◌, ◌⊎◌, true, false, not, min, max, nat_lt, List, length, Result, Ok, Err, ℤ, if◌then◌else◌}
use Rattle.kfs_path.specs.Pieces.{is_empty}
use Rattle.kfs_path.specs.declared.call.Errno.{Errno}
use Rattle.kfs_path.specs.declared.call.Errno.TheVariants.{EBADF, EINVAL}
use Rattle.kfs_model.specs.Ladder.{◌>>=◌, ◌>>◌, ◌when◌}
use Rattle.kfs_model.specs.Step.{or_else, greatest_count, is_negative}
use Rattle.kfs_core.specs.declared.fault.CoreFault.{CoreFault}
use Rattle.kfs_core.specs.declared.fault.CoreFault.TheVariants.{No, Device}
use Rattle.kfs_core.specs.Core.{KfsState, Same}
use Rattle.kfs_core.specs.Files.{WriteDoes, WriteFails}
use Rattle.kfs_posix.specs.declared.open_files.OpenFile.{OpenFile}
use Rattle.kfs_posix.specs.Opens.{Opens, open_at, relengthed, moved_to}

-- the open file into which may be written
abbrev pub writable_in : Opens → ℕ → Result (ℕ × OpenFile) Errno
writable_in o fd = do
  it ← or_else (open_at o fd) EBADF
  EBADF when not it.1.it.write
  Ok it

-- the same at a given place
abbrev pub writable_at : Opens → ℕ → ℤ → Result (ℕ × OpenFile) Errno
writable_at o fd offset = do
  it ← writable_in o fd
  EINVAL when is_negative offset
  Ok it

-- the place at which a description writes
abbrev pub place_of : OpenFile → ℕ
place_of file = if file.it.append then file.length else file.it.offset

-- behind so many bytes from a place on
abbrev pub behind : ℕ → ℕ → ℕ
behind place n = min (place + n) (2 ^ 64 - 1)

-- what putting bytes into an open file did
abbrev pub PutFails : KfsState → Opens → OpenFile → ℕ → List ℕ → CoreFault → KfsState → Opens → Type 0
PutFails k o file place bytes (No e) new files =
    (files ≡ o) × (((nat_lt greatest_count (length bytes) ≡ true) × (e ≡ EINVAL) × Same k new) ⊎ ((nat_lt greatest_count (length bytes) ≡ false) × (is_empty bytes ≡ false) × WriteFails k file.it.node place bytes (No e) new))
PutFails k o file place bytes (Device fault) new files =
    (files ≡ o) × (nat_lt greatest_count (length bytes) ≡ false) × (is_empty bytes ≡ false) × WriteFails k file.it.node place bytes (Device fault) new

abbrev pub PutDoes : KfsState → Opens → OpenFile → ℕ → List ℕ → Result ℕ CoreFault → KfsState → Opens → Type 0
PutDoes k o file place bytes (Ok n) new files =
    (nat_lt greatest_count (length bytes) ≡ false)
    × (((is_empty bytes ≡ true) × (n ≡ 0) × Same k new × (files ≡ o)) ⊎ ((is_empty bytes ≡ false) × WriteDoes k file.it.node place bytes (Ok n) new × (files ≡ relengthed o file.it.node (max file.length (behind place n)))))
PutDoes k o file place bytes (Err fault) new files = PutFails k o file place bytes fault new files

-- refused by the judge, or what putting the bytes left
abbrev pub FdRefuses : KfsState → Opens → Result (ℕ × OpenFile) Errno → CoreFault → KfsState → Opens → Type 0
FdRefuses k o judged (No e) new files = (judged ≡ Err e) × Same k new × (files ≡ o)
FdRefuses k o judged (Device fault) new files = ⊥

-- what writing at a place did: `place` tells it by the open file
abbrev pub PwriteDoes : KfsState → Opens → Result (ℕ × OpenFile) Errno → ℕ → List ℕ → Result ℕ CoreFault → KfsState → Opens → Type 0
PwriteDoes k o judged place bytes (Ok n) new files = (it : ℕ × OpenFile) × (judged ≡ Ok it) × PutDoes k o it.1 place bytes (Ok n) new files
PwriteDoes k o judged place bytes (Err fault) new files = FdRefuses k o judged fault new files ⊎ ((it : ℕ × OpenFile) × (judged ≡ Ok it) × PutFails k o it.1 place bytes fault new files)

-- what writing at the description's place did; the offset moves behind the bytes, where there are some
abbrev pub moved_behind : Opens → ℕ → ℕ → ℕ → Opens
moved_behind o d place n = if n == 0 then o else moved_to o d (behind place n)

abbrev pub FdWriteDoes : KfsState → Opens → Result (ℕ × OpenFile) Errno → List ℕ → Result ℕ CoreFault → KfsState → Opens → Type 0
FdWriteDoes k o judged bytes (Ok n) new files =
    (it : ℕ × OpenFile) × (judged ≡ Ok it) × (mid : Opens) × PutDoes k o it.1 (place_of it.1) bytes (Ok n) new mid × (files ≡ moved_behind mid it.0 (place_of it.1) n)
FdWriteDoes k o judged bytes (Err fault) new files = FdRefuses k o judged fault new files ⊎ ((it : ℕ × OpenFile) × (judged ≡ Ok it) × PutFails k o it.1 (place_of it.1) bytes fault new files)
