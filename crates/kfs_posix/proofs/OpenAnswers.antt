-- `open` of a session, by what opening did.
use Rattle.std.proofs.Common.{◌≡◌, ℕ, ◌≢◌, ◌+◌, inl, inr, true, arith, refl, sym, subst, List, Option, Some, None, Result, Ok, Err}
use Rattle.std.proofs.lemmas.Bool.Decides.{nat_tests}
use Rattle.kfs_path.specs.declared.call.Call.{Call}
use Rattle.kfs_path.specs.declared.call.Call.TheVariants as calls
use Rattle.kfs_path.specs.declared.call.Cause.{Cause}
use Rattle.kfs_path.specs.declared.call.Errno.{Errno}
use Rattle.kfs_path.specs.declared.call.Flags.{Flags}
use Rattle.kfs_path.specs.declared.call.Reply.{Reply}
use Rattle.kfs_path.specs.declared.call.Reply.TheVariants as replies
use Rattle.kfs_model.specs.declared.Line.TheVariants as lines
use Rattle.kfs_model.specs.declared.Answer.TheVariants as answers
use Rattle.kfs_tx.specs.Tx.{seen}
use Rattle.kfs_core.specs.declared.fault.CoreFault.{CoreFault}
use Rattle.kfs_core.specs.declared.fault.CoreFault.TheVariants.{No, Device}
use Rattle.kfs_core.specs.Core.{KfsState, tx_in}
use Rattle.kfs_core.specs.Making.{parent_of, with_entry, created}
use Rattle.kfs_core.specs.Room.{space_in}
use Rattle.kfs_posix.specs.Opens.{Opens, opened_as}
use Rattle.kfs_posix.specs.Opening.{Opening, New, There, Cut, opened_file, open_in, OpenDoes}
use Rattle.kfs_posix.specs.Volume.{Volume, SessionState, state_of, volume_of, cause_of}
use Rattle.kfs_posix.specs.Answering.{IsYoung, refusal, down_after}
use Rattle.kfs_posix.specs.Showing.{GoesOn}
use Rattle.kfs_posix.proofs.Fault.{make_caused}
use Rattle.kfs_posix.proofs.Events.{unread, by_parts, erred, taken_down, Happens, same_machine, answered, low_next, low_count, Fails}
use Rattle.kfs_posix.proofs.OpenGoes.{open_refused, open_there_goes, open_new_goes, cut_files, cuts, open_falls}
use Rattle.kfs_posix.proofs.Calls.{any_cause}
use Rattle.kfs_posix.proofs.Going.{spare, spare_free}
use Rattle.kfs_posix.proofs.Planned.{changed_same}
use Rattle.kfs_posix.proofs.ResizeAnswers.{length_answered}
use Rattle.kfs_posix.proofs.ResizeGoes.{length_falls, resize_caused}

module _ (old : SessionState) (k0 k1 : KfsState) (o o1 : Opens) (d : Option Cause) (is : state_of k0 o d ≡ old) (up : d ≡ None) (awake : (tx_in k0).machine.up ≡ true) (age : IsYoung old) (keys : k1.keys ≡ k0.keys) (pages : k1.pages ≡ k0.pages)
    (path : List ℕ) (flags : Flags) where
  abbrev b : Volume
  b = volume_of k0 o d

  abbrev call : Call
  call = calls.Open path flags

  abbrev judge : Result Opening Errno
  judge = open_in (seen (tx_in k0)) (space_in k0) o path flags

  pub open_answered : (fd : ℕ) → OpenDoes k0 o flags judge (Ok fd) k1 o1 → Happens old call (replies.Number fd) k1 o1 d
  open_answered fd (There n file, judged, (same, run_is, charge_is, chunks, opens)) =
      answered old k0 k1 o o1 d is up call (replies.Number fd) tt (tx_in k0) k0.charge k0.chunks (opened_as o n opens.number file) (same_machine (tx_in k0)) run_is (by_parts k0 k1 keys pages charge_is chunks) opens.is
      (subst (λ m. GoesOn b (lines.Call call) (answers.Reply (replies.Number m)) (record b { files = opened_as o n opens.number file })) (sym same)
      (open_there_goes b path flags n opens.number file opens.free up judged))
  open_answered fd (New w n, judged, (same, run_is, charge_is, chunks, opens)) =
      let file = opened_file (tx_in k0).next true 0 flags in
      answered old k0 k1 o o1 d is up call (replies.Number fd) tt (created (tx_in k0) (parent_of w) w.name) (k0.charge + 2) k0.chunks (opened_as o n opens.number file) (changed_same (tx_in k0) (with_entry (tx_in k0) 2 (parent_of w) w.name) refl 4 ((tx_in k0).next + 1)) run_is (by_parts k0 k1 keys pages charge_is chunks) opens.is
      (subst (λ m. GoesOn b (lines.Call call) (answers.Reply (replies.Number m)) (record b { tx = created (tx_in k0) (parent_of w) w.name; charge = k0.charge + 2; files = opened_as o n opens.number file })) (sym same)
      (open_new_goes b path flags n opens.number w opens.free up (low_next old k0 o d is age) (low_count old k0 o d is age) judged))
  open_answered fd (Cut n file was, judged, (same, effect, opens)) =
      subst (λ m. Happens old call (replies.Number m) k1 o1 d) (sym same)
      (length_answered old k0 k1 o o1 d is up age call (replies.Number n) tt file.it.node was 0 opens.number (cut_files b path flags n opens.number file) opens.is opens.free refl (cuts b path flags n opens.number file was opens.free judged) effect)

  pub open_failed : (fault : CoreFault) (reply : Reply) (d1 : Option Cause) → OpenDoes k0 o flags judge (Err fault) k1 o1 → reply ≡ refusal fault → d1 ≡ down_after d fault → Fails old call fault reply k1 o1 d1
  open_failed (No e) reply d1 h reply_is down = erred old k0 k1 o o1 d is up call e reply d1 reply_is down h.1 (by_parts k0 k1 keys pages h.2 h.3) h.4 (open_refused b path flags e up h.0)
  open_failed (Device f) reply d1 (inl unread_is, charge_is, chunks, files) reply_is down =
      unread old k0 k1 o o1 d is up call f reply d1 reply_is down awake (by_parts k0 k1 keys pages charge_is chunks) files (λ live sh cause. any_cause live.world call refl refl refl cause) unread_is
  open_failed (Device f) reply d1 (inr (inl (w, fd, judged, fell)), charge_is, chunks, files) reply_is down =
      taken_down old k0 k1 o o1 d is up call f reply d1 reply_is down awake (by_parts k0 k1 keys pages charge_is chunks) files (make_caused (tx_in k0) 2 (parent_of w) w.name f (tx_in k1).machine fell)
      (open_falls b path flags (record b { tx = tx_in k1; down = Some (cause_of f) }) fd w f up refl refl (low_next old k0 o d is age) (low_count old k0 o d is age) judged fell)
  open_failed (Device f) reply d1 (inr (inr (fd, file, was, judged, apart, fell)), charge_is, chunks, files) reply_is down =
      let differ : was ≢ 0 = let e = apart in grind (arith, nat_tests) in
      taken_down old k0 k1 o o1 d is up call f reply d1 reply_is down awake (by_parts k0 k1 keys pages charge_is chunks) files (resize_caused (tx_in k0) file.it.node was 0 f (tx_in k1).machine fell)
      (length_falls b file.it.node was 0 call (replies.Number fd) (cut_files b path flags fd (spare b) file) up differ (low_count old k0 o d is age) (record b { tx = tx_in k1; down = Some (cause_of f) }) f refl refl (λ w cause. any_cause w call refl refl refl cause)
      (cuts b path flags fd (spare b) file was (spare_free b) judged) fell)
