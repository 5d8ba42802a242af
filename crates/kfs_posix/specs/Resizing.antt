-- A file's new length, over the objects and the open files.
use Rattle.std.specs.Prelude.{ℕ, ◌≡◌, ◌==◌, ◌⊎◌, Bool, false, List, Option, Some, None, Result, Ok, Err, ℤ}
use Rattle.kv_device.specs.Objects.{Objects}
use Rattle.kfs_path.specs.declared.call.Errno.{Errno}
use Rattle.kfs_path.specs.declared.call.Errno.TheVariants.{EINVAL, ENOENT, EISDIR, ENOTDIR}
use Rattle.kfs_model.specs.Ladder.{◌>>=◌, ◌>>◌, ◌when◌}
use Rattle.kfs_model.specs.Step.{Route, syntax, is_negative, natural}
use Rattle.kfs_tx.specs.Tx.{GetFault}
use Rattle.kfs_core.specs.declared.fault.CoreFault.{CoreFault}
use Rattle.kfs_core.specs.declared.fault.CoreFault.TheVariants.{No, Device}
use Rattle.kfs_core.specs.declared.room.Space.{Space}
use Rattle.kfs_core.specs.Core.{KfsState, tx_in, Stays, Same}
use Rattle.kfs_core.specs.Flat.{reach_in}
use Rattle.kfs_core.specs.Resizing.{resize_in, ResizesTo, ResizeFault}
use Rattle.kfs_posix.specs.Opens.{Opens, relengthed}
use Rattle.kfs_posix.specs.Writing.{writable_at}

-- the file n and its length, where another may take its place
abbrev pub resize_node : Objects → Space → ℕ → ℕ → Result (ℕ × ℕ) Errno
resize_node m space n size = do
  was ← resize_in m space n size
  Ok (n, was)

-- the same by a descriptor
abbrev pub ftruncate_in : Objects → Space → Opens → ℕ → ℤ → Result (ℕ × ℕ) Errno
ftruncate_in m space o fd size = do
  it ← writable_at o fd size
  resize_node m space it.1.it.node (natural size)

-- a file that was found; a trailing slash wants a directory
abbrev pub file_found : Option (ℕ × ℕ × ℕ) → Bool → Result ℕ Errno
file_found None trailing = Err ENOENT
file_found (Some (n, kind, size)) trailing = do
  EISDIR when (kind == 1)
  ENOTDIR when trailing
  Ok n

-- the file that a path names
abbrev pub named_file_in : Objects → Route → Result ℕ Errno
named_file_in m route = do
  found ← reach_in m route
  file_found found route.trailing

abbrev pub truncate_by : Objects → Space → List ℕ → ℤ → Result (ℕ × ℕ) Errno
truncate_by m space path size = do
  EINVAL when is_negative size
  route ← syntax path
  n ← named_file_in m route
  resize_node m space n (natural size)

-- a file got another length, or keeps its own; each open file of it knows
pub record Resized (k : KfsState) (o : Opens) (judged : Result (ℕ × ℕ) Errno) (size : ℕ) (new : KfsState) (files : Opens) : Type 0 where
  pub node : ℕ
  pub was : ℕ
  pub judge : judged ≡ Ok (node, was)
  pub effect : ResizesTo (was == size) k node was size new
  pub files_are : files ≡ relengthed o node size

abbrev pub NotResized : KfsState → Opens → Result (ℕ × ℕ) Errno → ℕ → CoreFault → KfsState → Opens → Type 0
NotResized k o judged size (No e) new files = (judged ≡ Err e) × Same k new × (files ≡ o)
NotResized k o judged size (Device fault) new files =
    Stays k new × (files ≡ o)
    × (GetFault (tx_in k) fault (tx_in new).machine ⊎ ((it : ℕ × ℕ) × (judged ≡ Ok it) × ((it.1 == size) ≡ false) × ResizeFault (tx_in k) it.0 it.1 size fault (tx_in new).machine))

-- what giving a file a length did: the judge over the objects, the effect, and the open files
abbrev pub LengthDoes : {X : Type 0} → KfsState → Opens → Result (ℕ × ℕ) Errno → ℕ → Result X CoreFault → KfsState → Opens → Type 0
LengthDoes k o judged size (Ok x) new files = Resized k o judged size new files
LengthDoes k o judged size (Err fault) new files = NotResized k o judged size fault new files
