-- A call of a session that gives a file a length, by what it did.
use Rattle.std.proofs.Common.{◌≡◌, ◌≢◌, ℕ, ◌==◌, inl, inr, true, false, Bool, refl, ap, Option, Some, None, Result, arith}
use Rattle.std.proofs.lemmas.Bool.Decides.{nat_tests}
use Rattle.kfs_path.specs.declared.call.Call.{Call}
use Rattle.kfs_path.specs.declared.call.Cause.{Cause}
use Rattle.kfs_path.specs.declared.call.Errno.{Errno}
use Rattle.kfs_path.specs.declared.call.Reply.{Reply}
use Rattle.kfs_path.specs.declared.call.Reply.TheVariants as replies
use Rattle.std.specs.Ordering.{nat_cmp}
use Rattle.std.specs.FinMap.{find}
use Rattle.kfs_model.specs.Life.{Live}
use Rattle.kfs_model.specs.Change.{commits}
use Rattle.kfs_tx.specs.Tx.{one_change}
use Rattle.kfs_core.specs.declared.fault.CoreFault.{CoreFault}
use Rattle.kfs_core.specs.declared.fault.CoreFault.TheVariants.{No, Device}
use Rattle.kfs_core.specs.Core.{KfsState, tx_in}
use Rattle.kfs_core.specs.Files.{with_length}
use Rattle.kfs_core.specs.Resizing.{ResizesTo, resize_weight}
use Rattle.kfs_posix.specs.Opens.{Opens, relengthed}
use Rattle.kfs_posix.specs.Resizing.{Resized, NotResized}
use Rattle.kfs_posix.specs.Volume.{Volume, SessionState, state_of, volume_of, cause_of}
use Rattle.kfs_posix.specs.Answering.{IsYoung, refusal, down_after}
use Rattle.kfs_posix.specs.Showing.{ShowsLive}
use Rattle.kfs_posix.proofs.Events.{IsAnswer, unread, erred, taken_down, Happens, same_machine, answered, low_count, Fails}
use Rattle.kfs_posix.proofs.Going.{spare, spare_free, idle_goes}
use Rattle.kfs_posix.proofs.Planned.{changed_same}
use Rattle.kfs_posix.proofs.ResizeGoes.{Lengthens, length_same, length_rests, length_goes, length_falls, resize_caused, charge_now, chunks_now}
use Rattle.kfs_posix.proofs.ResizeEvents.{IsResizing}

-- a file got another length, or keeps its own, whichever call gave it
module _ (old : SessionState) (k0 k1 : KfsState) (o o1 : Opens) (d : Option Cause) (is : state_of k0 o d ≡ old) (up : d ≡ None) (age : IsYoung old)
    (call : Call) (reply : Reply) (answer : IsAnswer reply) (n was size number : ℕ) (files : Opens) (files_is : o1 ≡ files) where
  pub length_answered : find nat_cmp number o.files ≡ None → commits call reply ≡ false → ((live : Live) → ShowsLive (volume_of k0 o d) live → Lengthens (volume_of k0 o d) n was size call reply files number live)
      → ResizesTo (was == size) k0 n was size k1 → Happens old call reply k1 o1 d
  length_answered free quiet at effect = by (was == size) refl effect
    where
      by : (same : Bool) → (was == size) ≡ same → ResizesTo same k0 n was size k1 → Happens old call reply k1 o1 d
      by true test same =
          answered old k0 k1 o o1 d is up call reply answer (tx_in k0) k0.charge k0.chunks files (same_machine (tx_in k0)) (ap tx_in same) same files_is
          (length_rests (volume_of k0 o d) n was size call reply files up number free (let e = test in grind (arith, nat_tests)) quiet at)
      by false test ((put, puts, run_is), grows) =
          let differ : was ≢ size = let e = test in grind (arith, nat_tests) in
          let few = low_count old k0 o d is age in
          answered old k0 k1 o o1 d is up call reply answer (one_change (with_length put n size) (resize_weight was size) put.next)
          (charge_now (volume_of k0 o d) n was size call reply files up differ few) (chunks_now (volume_of k0 o d) n was size call reply files up differ few) files
          (changed_same (tx_in k0) (with_length put n size) (length_same (tx_in k0) n was size put puts) (resize_weight was size) put.next) run_is grows files_is
          (length_goes (volume_of k0 o d) n was size call reply files up differ few put puts number free at)

module _ (old : SessionState) (k0 k1 : KfsState) (o o1 : Opens) (d : Option Cause) (is : state_of k0 o d ≡ old) (up : d ≡ None) (awake : (tx_in k0).machine.up ≡ true) (age : IsYoung old)
    (call : Call) (judge : Result (ℕ × ℕ) Errno) (size : ℕ) (resizing : IsResizing (volume_of k0 o d) call judge size) where
  abbrev b : Volume
  b = volume_of k0 o d

  pub resize_answered : Resized k0 o judge size k1 o1 → Happens old call replies.Done k1 o1 d
  resize_answered h =
      length_answered old k0 k1 o o1 d is up age call replies.Done tt h.node h.was size (spare b) (relengthed o h.node size) h.files_are (spare_free b) (resizing.quiet replies.Done) (λ live sh. resizing.does live sh (h.node, h.was) h.judge) h.effect

  pub resize_failed : (fault : CoreFault) (reply : Reply) (d1 : Option Cause) → NotResized k0 o judge size fault k1 o1 → reply ≡ refusal fault → d1 ≡ down_after d fault → Fails old call fault reply k1 o1 d1
  resize_failed (No e) reply d1 h reply_is down =
      erred old k0 k1 o o1 d is up call e reply d1 reply_is down (ap tx_in h.1) h.1 h.2
      (idle_goes b call (replies.Err e) up (resizing.weightless e) (resizing.quiet (replies.Err e)) (λ live sh. resizing.refused live sh e h.0))
  resize_failed (Device f) reply d1 (stays, files, inl unread_is) reply_is down =
      unread old k0 k1 o o1 d is up call f reply d1 reply_is down awake stays files (λ live sh cause. resizing.can live.world cause) unread_is
  resize_failed (Device f) reply d1 (stays, files, inr (it, judged, apart, fell)) reply_is down =
      let differ : it.1 ≢ size = let e = apart in grind (arith, nat_tests) in
      taken_down old k0 k1 o o1 d is up call f reply d1 reply_is down awake stays files (resize_caused (tx_in k0) it.0 it.1 size f (tx_in k1).machine fell)
      (length_falls b it.0 it.1 size call replies.Done (relengthed o it.0 size) up differ (low_count old k0 o d is age) (record b { tx = tx_in k1; down = Some (cause_of f) }) f refl refl resizing.can (λ live sh. resizing.does live sh it judged) fell)
