-- The device refuses nothing of an up session, call by call.
use Rattle.std.proofs.Common.{refl, Err, None}
use Rattle.kfs_path.specs.declared.call.Call.TheVariants as calls
use Rattle.kfs_model.specs.Life.{Live}
use Rattle.kfs_model.specs.Step.{natural}
use Rattle.kfs_tx.specs.Tx.{seen}
use Rattle.kfs_tx.proofs.Falling.{get_falls}
use Rattle.kfs_core.specs.declared.fault.CoreFault.{CoreFault}
use Rattle.kfs_core.specs.declared.fault.CoreFault.TheVariants.{No, Device}
use Rattle.kfs_core.specs.Core.{KfsState, tx_in}
use Rattle.kfs_core.specs.Room.{space_in}
use Rattle.kfs_core.proofs.Outside.{outside_of}
use Rattle.kfs_posix.specs.Opens.{Opens}
use Rattle.kfs_posix.specs.Volume.{volume_of, state_of}
use Rattle.kfs_posix.specs.Answering.{refusal, down_after}
use Rattle.kfs_posix.specs.Showing.{IsShowing}
use Rattle.kfs_posix.specs.Refusals as Refusals
use Rattle.kfs_posix.specs.Refusals.{Serves}
use Rattle.kfs_posix.specs.Opening.{OpenDoes, open_in}
use Rattle.kfs_posix.specs.Removing.{unlink_by, rmdir_by}
use Rattle.kfs_posix.specs.Resizing.{truncate_by, ftruncate_in}
use Rattle.kfs_posix.proofs.Answered.{sync_refused, mkdir_not_made}
use Rattle.kfs_posix.proofs.CloseAnswers.{close_failed}
use Rattle.kfs_posix.proofs.OpenAnswers.{open_failed}
use Rattle.kfs_posix.proofs.RenameAnswers.{rename_failed}
use Rattle.kfs_posix.proofs.ResizeAnswers.{resize_failed}
use Rattle.kfs_posix.proofs.UnnameAnswers.{unname_failed}
use Rattle.kfs_posix.proofs.WholeAnswers.{work_failed}
use Rattle.kfs_posix.proofs.WriteAnswers.{write_failed, pwrite_failed}
use Rattle.kfs_posix.proofs.ResizeEvents.{ftruncate_resizing, truncate_resizing}
use Rattle.kfs_posix.proofs.UnnameGoes.{rmdir_removal, unlink_removal}

-- it shows some live state
shown : (k : KfsState) (o : Opens) (live : Live) → Serves k o live → IsShowing (volume_of k o None)
shown k o live serves none = ∣ (live, serves.shows) ∣₁

-- all but the running transaction as it was
abbrev run_alone : KfsState → KfsState → KfsState
run_alone k new = record k { running = new.running }

pub reading : Refusals.ReadingIsNeverRefused
reading k new o files live (No e) serves h = tt
reading k new o files live (Device f) serves h = outside_of (tx_in k).machine (tx_in new).machine f (get_falls (tx_in k) f (tx_in new).machine serves.shows.light.ready h).cause

pub committing : Refusals.CommittingIsNeverRefused
committing k new o files live fault serves h = (sync_refused (state_of k o None) k (run_alone k new) o None refl refl serves.shows.light.ready.up refl (refusal fault) fault (down_after None fault) h refl refl).answerable (shown k o live serves)

pub working : Refusals.WorkingIsNeverRefused
working k new o files live fault serves h = (work_failed (state_of k o None) k (run_alone k new) o None refl refl serves.shows.light.ready.up refl 0 fault (refusal fault) (down_after None fault) h refl refl).answerable (shown k o live serves)

pub mkdir : Refusals.MkdirIsNeverRefused
mkdir path k new o files live fault serves h = (mkdir_not_made (state_of k o None) k (run_alone k new) o None refl refl serves.shows.light.ready.up serves.age refl refl refl path (refusal fault) fault (down_after None fault) h refl refl refl).answerable (shown k o live serves)

pub opening : Refusals.OpeningIsNeverRefused
opening path flags k new o files live fault serves h = (open_failed (state_of k o None) k (record new { keys = k.keys; pages = k.pages }) o files None refl refl serves.shows.light.ready.up serves.age refl refl path flags fault (refusal fault) (down_after None fault) (at fault h) refl refl).answerable (shown k o live serves)
  where
    at : (fault : CoreFault) → OpenDoes k o flags (open_in (seen (tx_in k)) (space_in k) o path flags) (Err fault) new files → OpenDoes k o flags (open_in (seen (tx_in k)) (space_in k) o path flags) (Err fault) (record new { keys = k.keys; pages = k.pages }) files
    at (No e) h = h
    at (Device f) h = h

pub writing : Refusals.WritingIsNeverRefused
writing fd given k new o files live fault serves h = (write_failed (state_of k o None) k new o files None refl refl serves.shows.light.ready.up serves.age fd given fault (refusal fault) (down_after None fault) h refl refl).answerable (shown k o live serves)

pub pwrite : Refusals.PwriteIsNeverRefused
pwrite fd given offset k new o files live fault serves h = (pwrite_failed (state_of k o None) k new o files None refl refl serves.shows.light.ready.up serves.age fd given offset fault (refusal fault) (down_after None fault) h refl refl).answerable (shown k o live serves)

pub truncate : Refusals.TruncateIsNeverRefused
truncate path size k new o files live fault serves h =
    (resize_failed (state_of k o None) k new o files None refl refl serves.shows.light.ready.up serves.age (calls.Truncate path size) (truncate_by (seen (tx_in k)) (space_in k) path size) (natural size) (truncate_resizing (volume_of k o None) path size) fault (refusal fault) (down_after None fault) h refl refl).answerable (shown k o live serves)

pub ftruncate : Refusals.FtruncateIsNeverRefused
ftruncate fd size k new o files live fault serves h =
    (resize_failed (state_of k o None) k new o files None refl refl serves.shows.light.ready.up serves.age (calls.Ftruncate fd size) (ftruncate_in (seen (tx_in k)) (space_in k) o fd size) (natural size) (ftruncate_resizing (volume_of k o None) fd size) fault (refusal fault) (down_after None fault) h refl refl).answerable (shown k o live serves)

pub unlink : Refusals.UnlinkIsNeverRefused
unlink path k new o files live fault serves h =
    (unname_failed (state_of k o None) k new o files None refl refl serves.shows.light.ready.up serves.age (calls.Unlink path) (unlink_by (seen (tx_in k)) path) (unlink_removal (volume_of k o None) path) fault (refusal fault) (down_after None fault) h refl refl).answerable (shown k o live serves)

pub rmdir : Refusals.RmdirIsNeverRefused
rmdir path k new o files live fault serves h =
    (unname_failed (state_of k o None) k new o files None refl refl serves.shows.light.ready.up serves.age (calls.Rmdir path) (rmdir_by (seen (tx_in k)) path) (rmdir_removal (volume_of k o None) path) fault (refusal fault) (down_after None fault) h refl refl).answerable (shown k o live serves)

pub rename : Refusals.RenameIsNeverRefused
rename from to k new o files live fault serves h = (rename_failed (state_of k o None) k new o files None refl refl serves.shows.light.ready.up serves.age from to fault (refusal fault) (down_after None fault) h refl refl).answerable (shown k o live serves)

pub close : Refusals.CloseIsNeverRefused
close fd k new o files live fault serves h = (close_failed (state_of k o None) k new o files None refl refl serves.shows.light.ready.up serves.age fd fault (refusal fault) (down_after None fault) h refl refl).answerable (shown k o live serves)
