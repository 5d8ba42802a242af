-- Opening, over the objects and the open files.
use Rattle.std.specs.Prelude.{ℕ, ◌≡◌, ◌+◌, ◌==◌, ◌&&◌, ◌||◌, not, ◌⊎◌, Bool, true, false, List, Result, Ok, Err, Option, Some, None, if◌then◌else◌}
use Rattle.std.specs.Ordering.{nat_cmp}
use Rattle.std.specs.FinMap.{find}
use Rattle.kv_device.specs.declared.fault.DeviceFault.{DeviceFault}
use Rattle.kv_device.specs.Machine.{Machine}
use Rattle.kv_device.specs.Objects.{Objects}
use Rattle.kfs_path.specs.declared.call.Errno.{Errno}
use Rattle.kfs_path.specs.declared.call.Errno.TheVariants.{EINVAL, EEXIST, EISDIR, ENOTDIR, ENOENT, EMFILE}
use Rattle.kfs_path.specs.declared.call.Flags.{Flags}
use Rattle.kfs_model.specs.Ladder.{◌>>=◌, ◌>>◌, ◌when◌}
use Rattle.kfs_model.specs.Desk.{lowest_free}
use Rattle.kfs_model.specs.Step.{Route, syntax, or_else}
use Rattle.kfs_tx.specs.Tx.{Tx, GetFault}
use Rattle.kfs_core.specs.declared.fault.CoreFault.{CoreFault}
use Rattle.kfs_core.specs.declared.fault.CoreFault.TheVariants.{No, Device}
use Rattle.kfs_core.specs.declared.room.Space.{Space}
use Rattle.kfs_core.specs.Core.{KfsState, tx_in}
use Rattle.kfs_core.specs.Flat.{Where, reach_in, create_at}
use Rattle.kfs_core.specs.Making.{parent_of, created, CreateFault}
use Rattle.kfs_core.specs.Resizing.{resize_in, ResizesTo, ResizeFault}
use Rattle.kfs_posix.specs.declared.open_files.OpenFile.{OpenFile}
use Rattle.kfs_posix.specs.Opens.{Opens, desk_of, opened_as, relengthed}

-- a node that a place names, opened with these flags
abbrev pub opened_file : ℕ → Bool → ℕ → Flags → OpenFile
opened_file n file size flags = record { it = record { node = n; offset = 0; read = flags.read; write = flags.write; append = flags.append }; file = file; length = size; named = true }

-- what is opened under a descriptor: a new file, where a walk ended, a node that is there, or a file of so many bytes that is cut to none
pub data Opening : Type 0 where
  New : (w : Where) (fd : ℕ) → Opening
  There : (fd : ℕ) (file : OpenFile) → Opening
  Cut : (fd : ℕ) (file : OpenFile) (was : ℕ) → Opening

-- flags that contradict each other
abbrev pub is_contrary : Flags → Bool
is_contrary flags = (flags.trunc && not flags.write) || (flags.excl && not flags.creat)

-- why a node that is there isn't opened
abbrev pub barred : Bool → Bool → Flags → Option Errno
barred is_dir trailing flags =
    if flags.creat && flags.excl then Some EEXIST else
    if is_dir then (EISDIR when (flags.write || flags.creat)) else (ENOTDIR when trailing)

-- the descriptor under which a node that is there may be opened
abbrev pub free_for_in : Opens → Bool → Bool → Flags → Result ℕ Errno
free_for_in o is_dir trailing flags = do
  barred is_dir trailing flags
  or_else (lowest_free (desk_of o)) EMFILE

-- a node that is there, cut to no bytes where that is wanted
abbrev pub there_in : Objects → Space → ℕ → OpenFile → Bool → Result Opening Errno
there_in m space fd file trunc = if trunc then (resize_in m space file.it.node 0 >>= λ was. Ok (Cut fd file was)) else Ok (There fd file)

abbrev pub open_there_in : Objects → Space → Opens → ℕ → ℕ → ℕ → Bool → Flags → Result Opening Errno
open_there_in m space o n kind size trailing flags = do
  fd ← free_for_in o (kind == 1) trailing flags
  there_in m space fd (opened_file n (not (kind == 1)) size flags) flags.trunc

abbrev pub open_new_in : Objects → Space → Opens → Route → Flags → Result Opening Errno
open_new_in m space o route flags = do
  ENOENT when (not flags.creat || route.trailing)
  fd ← or_else (lowest_free (desk_of o)) EMFILE
  w ← create_at m space.keys space.charge route
  Ok (New w fd)

-- by what the walk found
abbrev pub open_found : Objects → Space → Opens → Route → Flags → Option (ℕ × ℕ × ℕ) → Result Opening Errno
open_found m space o route flags None = open_new_in m space o route flags
open_found m space o route flags (Some (n, kind, size)) = open_there_in m space o n kind size route.trailing flags

abbrev pub open_at_in : Objects → Space → Opens → Route → Flags → Result Opening Errno
open_at_in m space o route flags = do
  found ← reach_in m route
  open_found m space o route flags found

abbrev pub open_in : Objects → Space → Opens → List ℕ → Flags → Result Opening Errno
open_in m space o path flags = do
  EINVAL when is_contrary flags
  route ← syntax path
  open_at_in m space o route flags

-- a new description under a descriptor
pub record OpensAs (o : Opens) (fd : ℕ) (file : OpenFile) (new : Opens) : Type 0 where
  pub number : ℕ
  pub free : find nat_cmp number o.files ≡ None
  pub is : new ≡ opened_as o fd number file

-- the same of a file that is cut to no bytes; each open file of it knows
pub record OpensCut (o : Opens) (fd : ℕ) (file : OpenFile) (new : Opens) : Type 0 where
  pub number : ℕ
  pub free : find nat_cmp number o.files ≡ None
  pub is : new ≡ relengthed (opened_as o fd number file) file.it.node 0

-- what opening did
abbrev pub IsOpened : KfsState → Opens → Flags → Opening → ℕ → KfsState → Opens → Type 0
IsOpened k o flags (New w n) fd new files =
    (fd ≡ n) × (tx_in new ≡ created (tx_in k) (parent_of w) w.name) × (new.charge ≡ k.charge + 2) × (new.chunks ≡ k.chunks) × OpensAs o n (opened_file (tx_in k).next true 0 flags) files
IsOpened k o flags (There n file) fd new files = (fd ≡ n) × (tx_in new ≡ tx_in k) × (new.charge ≡ k.charge) × (new.chunks ≡ k.chunks) × OpensAs o n file files
IsOpened k o flags (Cut n file was) fd new files = (fd ≡ n) × ResizesTo (was == 0) k file.it.node was 0 new × OpensCut o n file files

abbrev pub OpenFault : Tx → Result Opening Errno → DeviceFault → Machine → Type 0
OpenFault r judged fault new =
    GetFault r fault new
    ⊎ ((w : Where) × (fd : ℕ) × (judged ≡ Ok (New w fd)) × CreateFault r (parent_of w) w.name fault new)
    ⊎ ((fd : ℕ) × (file : OpenFile) × (was : ℕ) × (judged ≡ Ok (Cut fd file was)) × ((was == 0) ≡ false) × ResizeFault r file.it.node was 0 fault new)

abbrev pub OpenFails : KfsState → Opens → Result Opening Errno → CoreFault → KfsState → Opens → Type 0
OpenFails k o judged (No e) new files = (judged ≡ Err e) × (tx_in new ≡ tx_in k) × (new.charge ≡ k.charge) × (new.chunks ≡ k.chunks) × (files ≡ o)
OpenFails k o judged (Device fault) new files = OpenFault (tx_in k) judged fault (tx_in new).machine × (new.charge ≡ k.charge) × (new.chunks ≡ k.chunks) × (files ≡ o)

abbrev pub OpenDoes : KfsState → Opens → Flags → Result Opening Errno → Result ℕ CoreFault → KfsState → Opens → Type 0
OpenDoes k o flags judged (Ok fd) new files = (x : Opening) × (judged ≡ Ok x) × IsOpened k o flags x fd new files
OpenDoes k o flags judged (Err fault) new files = OpenFails k o judged fault new files
