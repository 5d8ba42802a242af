-- What the calls of an up session may fail with: the device refuses nothing.
use Rattle.std.specs.Prelude.{ℕ, ◌<◌, ◌-◌, ◌^◌, List, Err, None, ℤ}
use Rattle.kfs_path.specs.declared.call.Flags.{Flags}
use Rattle.kfs_model.specs.Life.{Live}
use Rattle.kfs_model.specs.Step.{natural}
use Rattle.kfs_tx.specs.Tx.{seen, age_of}
use Rattle.kfs_core.specs.declared.fault.CoreFault.{CoreFault}
use Rattle.kfs_core.specs.Core.{KfsState, tx_in}
use Rattle.kfs_core.specs.Flat.{place_in}
use Rattle.kfs_core.specs.Returned.{CommitFails, LeavesAtFault}
use Rattle.kfs_core.specs.Making.{MkdirFails}
use Rattle.kfs_core.specs.Room.{space_in}
use Rattle.kfs_core.specs.Working.{WorkFails}
use Rattle.kfs_posix.specs.Opens.{Opens}
use Rattle.kfs_posix.specs.Volume.{volume_of}
use Rattle.kfs_posix.specs.Answering.{IsAnswerable}
use Rattle.kfs_posix.specs.Showing.{ShowsLive}
use Rattle.kfs_posix.specs.Closing.{CloseDoes}
use Rattle.kfs_posix.specs.Opening.{OpenDoes, open_in}
use Rattle.kfs_posix.specs.Removing.{UnnameFails, unlink_by, rmdir_by}
use Rattle.kfs_posix.specs.Renaming.{NotRenamed, rename_by}
use Rattle.kfs_posix.specs.Resizing.{NotResized, truncate_by, ftruncate_in}
use Rattle.kfs_posix.specs.Writing.{FdWriteDoes, PwriteDoes, writable_in, writable_at}

-- an up session shows this live state, and its numbers have room for a call
pub record Serves (k : KfsState) (o : Opens) (live : Live) : Type 0 where
  pub shows : ShowsLive (volume_of k o None) live
  pub age : age_of k.running < 2 ^ 63 - 2 ^ 40

-- whatever an up session shows, what may fail so fails by an error of the call, or since power, the device or memory was missing
abbrev pub IsNeverRefused : (KfsState → Opens → CoreFault → KfsState → Opens → Type 0) → Type 0
IsNeverRefused May = (k new : KfsState) (o files : Opens) (live : Live) (fault : CoreFault) → Serves k o live → May k o fault new files → IsAnswerable fault

-- ---- by what the calls leave where they fail

abbrev pub ReadingIsNeverRefused : Type 0
ReadingIsNeverRefused = IsNeverRefused (λ k o fault new files. LeavesAtFault (tx_in k) fault (tx_in new))

abbrev pub CommittingIsNeverRefused : Type 0
CommittingIsNeverRefused = IsNeverRefused (λ k o fault new files. CommitFails (tx_in k) (tx_in new) fault)

abbrev pub WorkingIsNeverRefused : Type 0
WorkingIsNeverRefused = IsNeverRefused (λ k o fault new files. WorkFails (tx_in k) (tx_in new) fault)

abbrev pub MkdirIsNeverRefused : Type 0
MkdirIsNeverRefused = (path : List ℕ) → IsNeverRefused (λ k o fault new files. MkdirFails (tx_in k) (place_in (seen (tx_in k)) k.keys k.charge path) fault (tx_in new))

abbrev pub OpeningIsNeverRefused : Type 0
OpeningIsNeverRefused = (path : List ℕ) (flags : Flags) → IsNeverRefused (λ k o fault new files. OpenDoes k o flags (open_in (seen (tx_in k)) (space_in k) o path flags) (Err fault) new files)

abbrev pub WritingIsNeverRefused : Type 0
WritingIsNeverRefused = (fd : ℕ) (given : List ℕ) → IsNeverRefused (λ k o fault new files. FdWriteDoes k o (writable_in o fd) given (Err fault) new files)

abbrev pub PwriteIsNeverRefused : Type 0
PwriteIsNeverRefused = (fd : ℕ) (given : List ℕ) (offset : ℤ) → IsNeverRefused (λ k o fault new files. PwriteDoes k o (writable_at o fd offset) (natural offset) given (Err fault) new files)

abbrev pub TruncateIsNeverRefused : Type 0
TruncateIsNeverRefused = (path : List ℕ) (size : ℤ) → IsNeverRefused (λ k o fault new files. NotResized k o (truncate_by (seen (tx_in k)) (space_in k) path size) (natural size) fault new files)

abbrev pub FtruncateIsNeverRefused : Type 0
FtruncateIsNeverRefused = (fd : ℕ) (size : ℤ) → IsNeverRefused (λ k o fault new files. NotResized k o (ftruncate_in (seen (tx_in k)) (space_in k) o fd size) (natural size) fault new files)

abbrev pub UnlinkIsNeverRefused : Type 0
UnlinkIsNeverRefused = (path : List ℕ) → IsNeverRefused (λ k o fault new files. UnnameFails k o (unlink_by (seen (tx_in k)) path) fault new files)

abbrev pub RmdirIsNeverRefused : Type 0
RmdirIsNeverRefused = (path : List ℕ) → IsNeverRefused (λ k o fault new files. UnnameFails k o (rmdir_by (seen (tx_in k)) path) fault new files)

abbrev pub RenameIsNeverRefused : Type 0
RenameIsNeverRefused = (from to : List ℕ) → IsNeverRefused (λ k o fault new files. NotRenamed k o (rename_by (seen (tx_in k)) from to) fault new files)

abbrev pub CloseIsNeverRefused : Type 0
CloseIsNeverRefused = (fd : ℕ) → IsNeverRefused (λ k o fault new files. CloseDoes {X = Unit {0}} k o fd (Err fault) new files)
