-- `close` of a session, by what it did.
use Rattle.std.proofs.Common.{◌≡◌, ℕ, ◌+◌, ◌-◌, inl, inr, true, false, Bool, refl, sym, ◌∙◌, ap, subst, Option, None, Err}
use Rattle.kv_device.specs.Machine.{Machine}
use Rattle.kfs_objects.specs.Keys.{orphan_key}
use Rattle.kfs_path.specs.declared.call.Call.{Call}
use Rattle.kfs_path.specs.declared.call.Call.TheVariants as calls
use Rattle.kfs_path.specs.declared.call.Cause.{Cause}
use Rattle.kfs_path.specs.declared.call.Errno.TheVariants.{EBADF}
use Rattle.kfs_path.specs.declared.call.Reply.{Reply}
use Rattle.kfs_path.specs.declared.call.Reply.TheVariants as replies
use Rattle.kfs_tx.specs.Tx.{seen, deleted_in, one_change}
use Rattle.kfs_core.specs.declared.fault.CoreFault.{CoreFault}
use Rattle.kfs_core.specs.declared.fault.CoreFault.TheVariants.{No, Device}
use Rattle.kfs_core.specs.Core.{KfsState, tx_in}
use Rattle.kfs_core.specs.Flat.{inode_in}
use Rattle.kfs_core.specs.Removing.{chunks_for, release_at, ReleaseFails}
use Rattle.kfs_posix.specs.Opens.{Opens, closed}
use Rattle.kfs_posix.specs.Closing.{remains, Closes, Closed, NotReleased, CloseDoes}
use Rattle.kfs_posix.specs.Volume.{Volume, SessionState, state_of, volume_of, limits_of}
use Rattle.kfs_posix.specs.Answering.{IsYoung, refusal, down_after}
use Rattle.kfs_posix.proofs.Fault.{caused_counts, alone_caused}
use Rattle.kfs_posix.proofs.Events.{stopped, erred, Happens, same_machine, answered, low_count, Fails}
use Rattle.kfs_posix.proofs.Planned.{changed_same}
use Rattle.kfs_posix.proofs.CloseGoes.{close_bad, close_goes, release_goes, release_falls, release_unread, release_never, released_same, release_caused}
use Rattle.kfs_posix.proofs.Going.{errs}

module _ (old : SessionState) (k0 k1 : KfsState) (o o1 : Opens) (d : Option Cause) (is : state_of k0 o d ≡ old) (up : d ≡ None) (awake : (tx_in k0).machine.up ≡ true) (age : IsYoung old) (fd : ℕ) where
  abbrev b : Volume
  b = volume_of k0 o d

  abbrev call : Call
  call = calls.Close fd

  pub close_answered : Closed k0 o fd k1 o1 → Happens old call replies.Done k1 o1 d
  close_answered h = by (remains (closed o fd h.it.0) h.it.1) refl h.closes
    where
      by : (stays : Bool) → remains (closed o fd h.it.0) h.it.1 ≡ stays → Closes k0 h.it.1 stays k1 → Happens old call replies.Done k1 o1 d
      by true e same =
          answered old k0 k1 o o1 d is up call replies.Done tt (tx_in k0) k0.charge k0.chunks (closed o fd h.it.0) (same_machine (tx_in k0))
          (ap tx_in same) same h.files_are
          (close_goes b fd up h.it h.at e)
      by false e r =
          let n = h.it.1.it.node in
          let mid = deleted_in r.effect.mid (orphan_key n) in
          answered old k0 k1 o o1 d is up call replies.Done tt (one_change mid (4 + chunks_for r.size) mid.next) (k0.charge - (2 + chunks_for r.size)) (k0.chunks - chunks_for r.size) (closed o fd h.it.0)
          (changed_same (tx_in k0) mid (released_same (tx_in k0) n r.size r.effect.mid r.effect.goes) (4 + chunks_for r.size) mid.next)
          r.effect.change r.frees h.files_are
          (release_goes b fd up h.it h.at e (low_count old k0 o d is age) r.size r.judge r.effect.mid r.effect.goes)

  -- going down in the release, or never refused by it
  not_released : (fault : CoreFault) (reply : Reply) (d1 : Option Cause) → NotReleased k0 o fd fault k1 o1 → reply ≡ refusal fault → d1 ≡ down_after d fault → Fails old call fault reply k1 o1 d1
  not_released fault reply d1 h reply_is down = happens fault h.fails reply_is down
    where
      happens : (fault : CoreFault) → ReleaseFails k0 h.it.1.it.node (release_at (inode_in (seen (tx_in k0)) h.it.1.it.node)) fault k1 → reply ≡ refusal fault → d1 ≡ down_after d fault → Fails old call fault reply k1 o1 d1
      happens (No e) (judged, same) reply_is down =
          let machine = ap (λ (k : KfsState). (tx_in k).machine) same in
          stopped old k0 k1 o o1 d is up call (No e) reply d1 reply_is down (ap (λ (k : KfsState). limits_of (volume_of k o d)) same)
          (ap (λ (m : Machine). m.cuts) machine, ap (λ (m : Machine). m.faults) machine)
          (errs b (volume_of k1 o1 d1) call e (release_never b fd up h.it h.at h.goes (volume_of k1 o1 d1) e (refusal (No e)) judged))
      happens (Device f) (stays, inl unread) reply_is down =
          stopped old k0 k1 o o1 d is up call (Device f) reply d1 reply_is down (ap (λ (k : KfsState). limits_of (volume_of k o d)) stays)
          (caused_counts (tx_in k0).machine f (tx_in k1).machine awake (alone_caused (tx_in k0).machine f (tx_in k1).machine unread.1))
          (release_unread b fd up h.it h.at h.goes (volume_of k1 o1 d1) f down (ap (λ (k : KfsState). limits_of (volume_of k o d)) stays) unread)
      happens (Device f) (stays, inr (size, judged, fell)) reply_is down =
          stopped old k0 k1 o o1 d is up call (Device f) reply d1 reply_is down (ap (λ (k : KfsState). limits_of (volume_of k o d)) stays)
          (caused_counts (tx_in k0).machine f (tx_in k1).machine awake (release_caused (tx_in k0) h.it.1.it.node size f (tx_in k1).machine fell))
          (release_falls b fd up h.it h.at h.goes (low_count old k0 o d is age) (volume_of k1 o1 d1) size f judged down (ap (λ (k : KfsState). limits_of (volume_of k o d)) stays) fell)

  pub close_failed : (fault : CoreFault) (reply : Reply) (d1 : Option Cause) → CloseDoes {X = Unit {0}} k0 o fd (Err fault) k1 o1 → reply ≡ refusal fault → d1 ≡ down_after d fault → Fails old call fault reply k1 o1 d1
  close_failed fault reply d1 (inr h) reply_is down = not_released fault reply d1 h reply_is down
  close_failed fault reply d1 (inl h) reply_is down =
      subst (λ f. Fails old call f reply k1 o1 d1) (sym h.errno)
      (erred old k0 k1 o o1 d is up call EBADF reply d1 (reply_is ∙ ap refusal h.errno) (down ∙ ap (down_after d) h.errno) (ap tx_in h.same) h.same h.files_are (close_bad b fd up h.at))
