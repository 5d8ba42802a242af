-- Reading from a descriptor of a session, by what reading did.
use Rattle.std.proofs.Common.{◌≡◌, ℕ, inl, inr, true, refl, List, Option, Some, None, Ok, Err, ℤ}
use Rattle.kfs_path.specs.declared.call.Call.TheVariants as calls
use Rattle.kfs_path.specs.declared.call.Cause.{Cause}
use Rattle.kfs_path.specs.declared.call.Reply.{Reply}
use Rattle.kfs_path.specs.declared.call.Reply.TheVariants as replies
use Rattle.kfs_model.specs.Step.{natural, is_negative}
use Rattle.kfs_tx.specs.Tx.{seen}
use Rattle.kfs_core.specs.declared.fault.CoreFault.{CoreFault}
use Rattle.kfs_core.specs.declared.fault.CoreFault.TheVariants.{No, Device}
use Rattle.kfs_core.specs.Core.{KfsState, tx_in, Stays}
use Rattle.kfs_core.specs.Returned.{LeavesAtFault}
use Rattle.kfs_posix.specs.Opens.{Opens, with_file}
use Rattle.kfs_posix.specs.Reading.{readable_in, readable_at, ReadDoes, PreadDoes}
use Rattle.kfs_posix.specs.Volume.{Volume, SessionState, state_of, volume_of, cause_of}
use Rattle.kfs_posix.specs.Answering.{refusal, down_after}
use Rattle.kfs_posix.proofs.Fault.{alone_caused}
use Rattle.kfs_posix.proofs.Events.{erred, taken_down, Happens, same_machine, answered, Fails}
use Rattle.kfs_posix.proofs.ReadGoes.{moved, read_refused, read_goes, parted, read_never, pread_refused, pread_goes}
use Rattle.kfs_posix.proofs.Calls.{read_falls}

module _ (old : SessionState) (k0 k1 : KfsState) (o o1 : Opens) (d : Option Cause) (is : state_of k0 o d ≡ old) (up : d ≡ None) (awake : (tx_in k0).machine.up ≡ true) (rest : Stays k0 k1) (fd count : ℕ) where
  abbrev b : Volume
  b = volume_of k0 o d

  pub read_answered : (text : List ℕ) → ReadDoes (seen (tx_in k0)) o (readable_in o fd count) count (Ok text) o1 → tx_in k1 ≡ tx_in k0 → Happens old (calls.Read fd count) (replies.Read text) k1 o1 d
  read_answered text does leaves =
      let it = does.0 in
      answered old k0 k1 o o1 d is up (calls.Read fd count) (replies.Read text) tt (tx_in k0) k0.charge k0.chunks (with_file o it.0 (moved b fd count it.1 text)) (same_machine (tx_in k0)) leaves rest does.3
      (read_goes b fd count it text up does.1 does.2)

  pub read_failed : (fault : CoreFault) (reply : Reply) (d1 : Option Cause) → ReadDoes (seen (tx_in k0)) o (readable_in o fd count) count (Err fault) o1 → LeavesAtFault (tx_in k0) fault (tx_in k1) → reply ≡ refusal fault → d1 ≡ down_after d fault → Fails old (calls.Read fd count) fault reply k1 o1 d1
  read_failed (No e) reply d1 (inl h, files) leaves reply_is down = erred old k0 k1 o o1 d is up (calls.Read fd count) e reply d1 reply_is down leaves rest files (read_refused b fd count e up h)
  read_failed (No e) reply d1 (inr h, files) leaves reply_is down =
      erred old k0 k1 o o1 d is up (calls.Read fd count) e reply d1 reply_is down leaves rest files (read_never b fd count h.0 h.0.1.it.offset e (calls.Read fd count) (replies.Err e) b up h.1 h.2)
  read_failed (Device f) reply d1 (h, files) leaves reply_is down =
      taken_down old k0 k1 o o1 d is up (calls.Read fd count) f reply d1 reply_is down awake rest files (alone_caused (tx_in k0).machine f (tx_in k1).machine leaves.1) (read_falls b (record b { tx = tx_in k1; down = Some (cause_of f) }) (calls.Read fd count) f (λ w. refl) (λ w. refl) up refl refl leaves)

  module _ (offset : ℤ) where
    pub pread_answered : (text : List ℕ) → PreadDoes (seen (tx_in k0)) (readable_at o fd count offset) (natural offset) count (Ok text) → o1 ≡ o → tx_in k1 ≡ tx_in k0 → Happens old (calls.Pread fd count offset) (replies.Read text) k1 o1 d
    pread_answered text does files leaves =
        answered old k0 k1 o o1 d is up (calls.Pread fd count offset) (replies.Read text) tt (tx_in k0) k0.charge k0.chunks o (same_machine (tx_in k0)) leaves rest files
        (pread_goes b fd count offset does.0 text up does.1 does.2)

    pub pread_failed : (fault : CoreFault) (reply : Reply) (d1 : Option Cause) → PreadDoes (seen (tx_in k0)) (readable_at o fd count offset) (natural offset) count (Err fault) → o1 ≡ o → LeavesAtFault (tx_in k0) fault (tx_in k1) → reply ≡ refusal fault → d1 ≡ down_after d fault
        → Fails old (calls.Pread fd count offset) fault reply k1 o1 d1
    pread_failed (No e) reply d1 (inl h) files leaves reply_is down = erred old k0 k1 o o1 d is up (calls.Pread fd count offset) e reply d1 reply_is down leaves rest files (pread_refused b fd count offset e up h)
    pread_failed (No e) reply d1 (inr h) files leaves reply_is down =
        erred old k0 k1 o o1 d is up (calls.Pread fd count offset) e reply d1 reply_is down leaves rest files
        (read_never b fd count h.0 (natural offset) e (calls.Pread fd count offset) (replies.Err e) b up (parted (readable_in o fd count) (is_negative offset) h.0 h.1).0 h.2)
    pread_failed (Device f) reply d1 h files leaves reply_is down =
        taken_down old k0 k1 o o1 d is up (calls.Pread fd count offset) f reply d1 reply_is down awake rest files (alone_caused (tx_in k0).machine f (tx_in k1).machine leaves.1) (read_falls b (record b { tx = tx_in k1; down = Some (cause_of f) }) (calls.Pread fd count offset) f (λ w. refl) (λ w. refl) up refl refl leaves)
