-- A call of a session that takes a name away, by what it did.
use Rattle.std.proofs.Common.{◌≡◌, inl, inr, true, refl, ap, Option, Some, None, Result}
use Rattle.kfs_path.specs.declared.call.Call.{Call}
use Rattle.kfs_path.specs.declared.call.Cause.{Cause}
use Rattle.kfs_path.specs.declared.call.Errno.{Errno}
use Rattle.kfs_path.specs.declared.call.Reply.{Reply}
use Rattle.kfs_path.specs.declared.call.Reply.TheVariants as replies
use Rattle.kfs_core.specs.declared.fault.CoreFault.{CoreFault}
use Rattle.kfs_core.specs.declared.fault.CoreFault.TheVariants.{No, Device}
use Rattle.kfs_core.specs.declared.removing.Leaf.{Leaf}
use Rattle.kfs_core.specs.Core.{KfsState, tx_in}
use Rattle.kfs_posix.specs.Opens.{Opens, without_name}
use Rattle.kfs_posix.specs.Removing.{Unnamed, UnnameFails, open_now}
use Rattle.kfs_posix.specs.Volume.{Volume, SessionState, state_of, volume_of, cause_of}
use Rattle.kfs_posix.specs.Answering.{IsYoung, refusal, down_after}
use Rattle.kfs_posix.proofs.Events.{unread, erred, taken_down, Happens, answered, low_count, Fails}
use Rattle.kfs_posix.proofs.Planned.{changed_same}
use Rattle.kfs_posix.proofs.UnnameGoes.{IsRemoval, unnames_same, unname_weight, unname_goes, unname_refused, unname_falls, unname_caused}

module _ (old : SessionState) (k0 k1 : KfsState) (o o1 : Opens) (d : Option Cause) (is : state_of k0 o d ≡ old) (up : d ≡ None) (awake : (tx_in k0).machine.up ≡ true) (age : IsYoung old)
    (call : Call) (judge : Result Leaf Errno) (removal : IsRemoval (volume_of k0 o d) call judge) where
  abbrev b : Volume
  b = volume_of k0 o d

  pub unname_answered : Unnamed k0 o judge k1 o1 → Happens old call replies.Done k1 o1 d
  unname_answered h =
      let tx = h.effect.change in
      let same = unnames_same (tx_in k0) h.leaf (open_now o h.leaf.node) h.effect.mid h.effect.unnames in
      answered old k0 k1 o o1 d is up call replies.Done tt _ _ _ (without_name o h.leaf.node)
      (changed_same (tx_in k0) h.effect.mid same (unname_weight b call judge removal (low_count old k0 o d is age) up h.leaf) h.effect.mid.next)
      tx h.frees h.files_are
      (unname_goes b call judge removal (low_count old k0 o d is age) up h.leaf h.judge h.effect.mid h.effect.unnames)

  pub unname_failed : (fault : CoreFault) (reply : Reply) (d1 : Option Cause) → UnnameFails k0 o judge fault k1 o1 → reply ≡ refusal fault → d1 ≡ down_after d fault → Fails old call fault reply k1 o1 d1
  unname_failed (No e) reply d1 h reply_is down =
      erred old k0 k1 o o1 d is up call e reply d1 reply_is down (ap tx_in h.1) h.1 h.2 (unname_refused b call judge removal (low_count old k0 o d is age) up e h.0)
  unname_failed (Device f) reply d1 (stays, files, inl unread_is) reply_is down =
      unread old k0 k1 o o1 d is up call f reply d1 reply_is down awake stays files (λ live sh cause. removal.can live.world cause) unread_is
  unname_failed (Device f) reply d1 (stays, files, inr (leaf, judged, fell)) reply_is down =
      taken_down old k0 k1 o o1 d is up call f reply d1 reply_is down awake stays files (unname_caused (tx_in k0) leaf (open_now o leaf.node) f (tx_in k1).machine fell)
      (unname_falls b call judge removal (low_count old k0 o d is age) up (record b { tx = tx_in k1; down = Some (cause_of f) }) leaf f judged refl refl fell)
