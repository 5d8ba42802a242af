-- `write` and `pwrite` of a session, by what writing did.
use Rattle.std.proofs.Common.{◌≡◌, ℕ, ◌+◌, ◌-◌, inl, inr, true, max, refl, sym, ◌∙◌, ap, subst, List, length, take, Option, Some, None, Ok, Err, ℤ}
use Rattle.kv_device.specs.declared.fault.DeviceFault.{DeviceFault}
use Rattle.kv_device.specs.declared.fault.DeviceFault.TheVariants.{Memory}
use Rattle.kfs_path.specs.declared.call.Call.{Call}
use Rattle.kfs_path.specs.declared.call.Call.TheVariants as calls
use Rattle.kfs_path.specs.declared.call.Cause.{Cause}
use Rattle.kfs_path.specs.declared.call.Data.TheVariants.{Plain}
use Rattle.kfs_path.specs.declared.call.Errno.{Errno}
use Rattle.kfs_path.specs.declared.call.Reply.{Reply}
use Rattle.kfs_path.specs.declared.call.Reply.TheVariants as replies
use Rattle.kfs_model.specs.declared.Line.TheVariants as lines
use Rattle.kfs_model.specs.declared.Answer.TheVariants as answers
use Rattle.kfs_model.specs.Change.{spanned}
use Rattle.kfs_model.specs.Step.{natural, World}
use Rattle.kfs_model.specs.Life.{Live, can_fail}
use Rattle.kfs_tx.specs.Tx.{one_change}
use Rattle.kfs_core.specs.declared.fault.CoreFault.{CoreFault}
use Rattle.kfs_core.specs.declared.fault.CoreFault.TheVariants.{No, Device}
use Rattle.kfs_core.specs.Core.{KfsState, tx_in, Same, Stays, Takes}
use Rattle.kfs_core.specs.Files.{Wrote, WriteFault, with_length}
use Rattle.kfs_core.specs.Room.{grown, chunks_for, fits_in, space_in}
use Rattle.kfs_core.proofs.FileFaults.{write_caused}
use Rattle.kfs_posix.specs.Opens.{Opens, relengthed}
use Rattle.kfs_posix.specs.Writing.{writable_in, writable_at, place_of, behind, moved_behind, FdWriteDoes, PwriteDoes}
use Rattle.kfs_posix.specs.Volume.{Volume, SessionState, state_of, volume_of, cause_of}
use Rattle.kfs_posix.specs.Answering.{IsYoung, refusal, down_after}
use Rattle.kfs_posix.specs.Showing.{ShowsLive, GoesOn}
use Rattle.kfs_posix.proofs.Events.{unread, erred, taken_down, Happens, same_machine, answered, low_count, Fails}
use Rattle.kfs_posix.proofs.Calls.{any_cause}
use Rattle.kfs_posix.proofs.WriteGoes.{Puts, put_goes, same_numbers, wrote_falls}
use Rattle.kfs_posix.proofs.WriteEvents

module _ (old : SessionState) (k0 k1 : KfsState) (o o1 : Opens) (d : Option Cause) (is : state_of k0 o d ≡ old) (up : d ≡ None) (awake : (tx_in k0).machine.up ≡ true) (age : IsYoung old) where
  abbrev b : Volume
  b = volume_of k0 o d

  -- all as it was
  unchanged : (call : Call) (n : ℕ) → Same k0 k1 → o1 ≡ o → GoesOn b (lines.Call call) (answers.Reply (replies.Number n)) b → Happens old call (replies.Number n) k1 o1 d
  unchanged call n same files goes =
      answered old k0 k1 o o1 d is up call (replies.Number n) tt (tx_in k0) k0.charge k0.chunks o (same_machine (tx_in k0)) (ap tx_in same) same files goes

  refused : (call : Call) (e : Errno) (reply : Reply) (d1 : Option Cause) → reply ≡ refusal (No e) → d1 ≡ down_after d (No e) → Same k0 k1 → o1 ≡ o → GoesOn b (lines.Call call) (answers.Reply (replies.Err e)) b → Fails old call (No e) reply k1 o1 d1
  refused call e reply d1 reply_is down same files goes = erred old k0 k1 o o1 d is up call e reply d1 reply_is down (ap tx_in same) same files goes

  -- a call that writes
  module _ (call : Call) (can : (w : World) (cause : Cause) → can_fail w call cause ≡ true) (node size p count : ℕ) (given : List ℕ) (long : length given ≡ count) (files : Opens)
      (puts : (live : Live) → ShowsLive b live → Puts b node size p given call (replies.Number count) files live) where
    wrote : Wrote (tx_in k0) node size p given (tx_in k1) → Takes k0 (chunks_for (grown size p count) - chunks_for size) k1 → o1 ≡ files → Happens old call (replies.Number count) k1 o1 d
    wrote (put, bytes, run_is) takes files_is =
        let more : chunks_for (grown size p count) - chunks_for size ≡ chunks_for (grown size p (length given)) - chunks_for size = ap (λ n. chunks_for (grown size p n) - chunks_for size) (sym long) in
        let few = low_count old k0 o d is age in
        answered old k0 k1 o o1 d is up call (replies.Number count) tt
        (one_change (with_length put node (grown size p (length given))) (2 + spanned p (length given)) put.next)
        (k0.charge + (chunks_for (grown size p (length given)) - chunks_for size)) (k0.chunks + (chunks_for (grown size p (length given)) - chunks_for size)) files
        (same_numbers b node size p given call (replies.Number count) files few put bytes).0 run_is
        (takes ∙ (λ i. record k0 { running = k1.running; charge = k0.charge + more i; chunks = k0.chunks + more i })) files_is
        (put_goes b node size p given call (replies.Number count) files few put bytes up puts)

    fell : (f : DeviceFault) (reply : Reply) (d1 : Option Cause) → reply ≡ refusal (Device f) → d1 ≡ down_after d (Device f) → Stays k0 k1 → o1 ≡ o → WriteFault (tx_in k0) node size p given f (tx_in k1).machine → Fails old call (Device f) reply k1 o1 d1
    fell f reply d1 reply_is down rest files_is h =
        taken_down old k0 k1 o o1 d is up call f reply d1 reply_is down awake rest files_is (write_caused (tx_in k0) node size p given f (tx_in k1).machine h)
        (wrote_falls b node size p given call (replies.Number count) files (low_count old k0 o d is age) (record b { tx = tx_in k1; down = Some (cause_of f) }) f up refl refl can puts h)

  -- ---- write

  module _ (fd : ℕ) (given : List ℕ) where
    abbrev call : Call
    call = calls.Write fd (Plain given)

    can : (w : World) (cause : Cause) → can_fail w call cause ≡ true
    can w cause = any_cause w call refl refl refl cause

    pub write_answered : (n : ℕ) → FdWriteDoes k0 o (writable_in o fd) given (Ok n) k1 o1 → Happens old call (replies.Number n) k1 o1 d
    write_answered n (it, judged, mid, (short, inl (none, zero, same, mid_is)), files) =
        unchanged call n same (files ∙ ap (λ x. moved_behind mid it.0 (place_of it.1) x) zero ∙ mid_is)
        (subst (λ x. GoesOn b (lines.Call call) (answers.Reply (replies.Number x)) b) (sym zero) (WriteEvents.write_nothing b fd given it up judged short none))
    write_answered n (it, judged, mid, (short, inr (full, (size, ok, n_is, done, takes), mid_is)), files) =
        let node = it.1.it.node in
        let p = place_of it.1 in
        let count = fits_in (space_in k0) size p (length given) in
        let may = WriteEvents.writable_of b fd given it judged in
        subst (λ x. Happens old call (replies.Number x) k1 o1 d) (sym n_is)
        (wrote call can node size p count (take count given) (WriteEvents.taken_is b fd given it may.0 may.1 p size ok) (WriteEvents.after_files b fd given it judged short full size ok)
        (WriteEvents.write_puts b fd given it judged short full size ok)
        (subst (λ x. Wrote (tx_in k0) node size p (take x given) (tx_in k1)) n_is done)
        (subst (λ x. Takes k0 (chunks_for (grown size p x) - chunks_for size) k1) n_is takes)
        (files ∙ (λ i. moved_behind (mid_is i) it.0 p n) ∙ ap (λ x. moved_behind (relengthed o node (max it.1.length (behind p x))) it.0 p x) n_is))

    pub write_failed : (fault : CoreFault) (reply : Reply) (d1 : Option Cause) → FdWriteDoes k0 o (writable_in o fd) given (Err fault) k1 o1 → reply ≡ refusal fault → d1 ≡ down_after d fault → Fails old call fault reply k1 o1 d1
    write_failed (No e) reply d1 (inl (judged, same, files)) reply_is down = refused call e reply d1 reply_is down same files (WriteEvents.write_refused b fd given e up judged)
    write_failed (No e) reply d1 (inr (it, judged, (files, inl (long, e_is, same)))) reply_is down =
        refused call e reply d1 reply_is down same files (subst (λ x. GoesOn b (lines.Call call) (answers.Reply (replies.Err x)) b) (sym e_is) (WriteEvents.write_long b fd given it up judged long))
    write_failed (No e) reply d1 (inr (it, judged, (files, inr (short, full, (denied, same))))) reply_is down =
        refused call e reply d1 reply_is down same files (WriteEvents.write_denied b fd given it judged short full e up denied)
    write_failed (Device f) reply d1 (inl h) reply_is down = absurd h
    write_failed (Device f) reply d1 (inr (it, judged, (files, short, full, (rest, inl h)))) reply_is down = unread old k0 k1 o o1 d is up call f reply d1 reply_is down awake rest files (λ live sh. can live.world) h
    write_failed (Device f) reply d1 (inr (it, judged, (files, short, full, (rest, inr (size, ok, h))))) reply_is down =
        let p = place_of it.1 in
        let count = fits_in (space_in k0) size p (length given) in
        let may = WriteEvents.writable_of b fd given it judged in
        fell call can it.1.it.node size p count (take count given) (WriteEvents.taken_is b fd given it may.0 may.1 p size ok) (WriteEvents.after_files b fd given it judged short full size ok) (WriteEvents.write_puts b fd given it judged short full size ok)
        f reply d1 reply_is down rest files h

    -- ---- pwrite

    module _ (offset : ℤ) where
      abbrev pcall : Call
      pcall = calls.Pwrite fd (Plain given) offset

      pcan : (w : World) (cause : Cause) → can_fail w pcall cause ≡ true
      pcan w cause = any_cause w pcall refl refl refl cause

      pub pwrite_answered : (n : ℕ) → PwriteDoes k0 o (writable_at o fd offset) (natural offset) given (Ok n) k1 o1 → Happens old pcall (replies.Number n) k1 o1 d
      pwrite_answered n (it, judged, (short, inl (none, zero, same, files))) =
          unchanged pcall n same files (subst (λ x. GoesOn b (lines.Call pcall) (answers.Reply (replies.Number x)) b) (sym zero) (WriteEvents.pwrite_nothing b fd given offset it judged up short none))
      pwrite_answered n (it, judged, (short, inr (full, (size, ok, n_is, done, takes), files))) =
          let node = it.1.it.node in
          let p = natural offset in
          let count = fits_in (space_in k0) size p (length given) in
          let may = WriteEvents.p_may b fd given offset it judged in
          subst (λ x. Happens old pcall (replies.Number x) k1 o1 d) (sym n_is)
          (wrote pcall pcan node size p count (take count given) (WriteEvents.taken_is b fd given it may.0 may.1 p size ok) (WriteEvents.plong b fd given offset it judged short full size ok)
          (WriteEvents.pwrite_puts b fd given offset it judged short full size ok)
          (subst (λ x. Wrote (tx_in k0) node size p (take x given) (tx_in k1)) n_is done)
          (subst (λ x. Takes k0 (chunks_for (grown size p x) - chunks_for size) k1) n_is takes)
          (files ∙ ap (λ x. relengthed o node (max it.1.length (behind p x))) n_is))

      pub pwrite_failed : (fault : CoreFault) (reply : Reply) (d1 : Option Cause) → PwriteDoes k0 o (writable_at o fd offset) (natural offset) given (Err fault) k1 o1 → reply ≡ refusal fault → d1 ≡ down_after d fault → Fails old pcall fault reply k1 o1 d1
      pwrite_failed (No e) reply d1 (inl (judged, same, files)) reply_is down = refused pcall e reply d1 reply_is down same files (WriteEvents.pwrite_refused b fd given offset e up judged)
      pwrite_failed (No e) reply d1 (inr (it, judged, (files, inl (long, e_is, same)))) reply_is down =
          refused pcall e reply d1 reply_is down same files (subst (λ x. GoesOn b (lines.Call pcall) (answers.Reply (replies.Err x)) b) (sym e_is) (WriteEvents.pwrite_long b fd given offset it judged up long))
      pwrite_failed (No e) reply d1 (inr (it, judged, (files, inr (short, full, (denied, same))))) reply_is down =
          refused pcall e reply d1 reply_is down same files (WriteEvents.pwrite_denied b fd given offset it judged short full e up denied)
      pwrite_failed (Device f) reply d1 (inl h) reply_is down = absurd h
      pwrite_failed (Device f) reply d1 (inr (it, judged, (files, short, full, (rest, inl h)))) reply_is down = unread old k0 k1 o o1 d is up pcall f reply d1 reply_is down awake rest files (λ live sh. pcan live.world) h
      pwrite_failed (Device f) reply d1 (inr (it, judged, (files, short, full, (rest, inr (size, ok, h))))) reply_is down =
          let p = natural offset in
          let count = fits_in (space_in k0) size p (length given) in
          let may = WriteEvents.p_may b fd given offset it judged in
          fell pcall pcan it.1.it.node size p count (take count given) (WriteEvents.taken_is b fd given it may.0 may.1 p size ok) (WriteEvents.plong b fd given offset it judged short full size ok) (WriteEvents.pwrite_puts b fd given offset it judged short full size ok)
          f reply d1 reply_is down rest files h

-- no memory for the bytes
pub no_memory : (old : SessionState) (k0 : KfsState) (o : Opens) (d : Option Cause) → state_of k0 o d ≡ old → d ≡ None → (tx_in k0).machine.up ≡ true → IsYoung old → (call : Call) → ((w : World) (cause : Cause) → can_fail w call cause ≡ true)
    → (fault : CoreFault) (reply : Reply) (d1 : Option Cause) → fault ≡ Device Memory → reply ≡ refusal fault → d1 ≡ down_after d fault → Fails old call fault reply k0 o d1
no_memory old k0 o d is up awake age call can fault reply d1 memory reply_is down =
    subst (λ f. Fails old call f reply k0 o d1) (sym memory)
    (unread old k0 k0 o o d is up call Memory reply d1 (reply_is ∙ ap refusal memory) (down ∙ ap (down_after d) memory) awake refl refl (λ live sh. can live.world) (inl (refl, refl), (refl, refl)))
