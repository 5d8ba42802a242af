-- What a session's method says of a call, as one record.
use Rattle.std.proofs.Common.{◌≡◌, ℕ, ◌<◌, ◌+◌, ◌-◌, ◌^◌, true, refl, sym, ◌∙◌, ap, subst, arith, Option, Some, None}
use Rattle.kv_device.specs.declared.fault.DeviceFault.{DeviceFault}
use Rattle.kv_device.specs.Machine.{Machine}
use Rattle.kfs_path.specs.declared.call.Call.{Call}
use Rattle.kfs_path.specs.declared.call.Cause.{Cause}
use Rattle.kfs_path.specs.declared.call.Errno.{Errno}
use Rattle.kfs_path.specs.declared.call.Reply.{Reply}
use Rattle.kfs_path.specs.declared.call.Reply.TheVariants as replies
use Rattle.kfs_model.specs.declared.Line.TheVariants as lines
use Rattle.kfs_model.specs.declared.Answer.TheVariants as answers
use Rattle.kfs_model.specs.Life.{Live, can_fail}
use Rattle.kfs_tx.specs.Tx.{Tx, RunningState, Caused, GetFault, age_of}
use Rattle.kfs_core.specs.declared.fault.CoreFault.{CoreFault}
use Rattle.kfs_core.specs.declared.fault.CoreFault.TheVariants.{No, Device}
use Rattle.kfs_core.specs.Core.{KfsState, tx_in, Stays}
use Rattle.kfs_posix.specs.Opens.{Opens}
use Rattle.kfs_posix.specs.Volume.{Volume, SessionState, state_of, volume_of, running_in, limits_of, cause_of}
use Rattle.kfs_posix.specs.Answering.{IsYoung, CountsFaults, KeepsCause, refusal, down_after, IsAnswerable}
use Rattle.kfs_posix.specs.Showing.{ShowsLive, GoesOn, IsShowing}
use Rattle.kfs_posix.proofs.Fault.{alone_caused, SameMachine, refused_keeps, caused_counts, same_counts}
use Rattle.kfs_posix.proofs.Going.{Refuses, errs}
use Rattle.kfs_posix.proofs.Calls.{unread_falls}
use Rattle.kfs_posix.proofs.Shown.{answers_it}

-- the call is an event of a life, and its reply tells which counts rose
pub record Happens (old : SessionState) (call : Call) (reply : Reply) (k1 : KfsState) (o1 : Opens) (d1 : Option Cause) : Type 0 where
  pub goes : GoesOn old.volume (lines.Call call) (answers.Reply reply) (volume_of k1 o1 d1)
  pub counts : CountsFaults old.volume.tx.machine reply (tx_in k1).machine
  pub keeps : KeepsCause old.volume reply (volume_of k1 o1 d1)
  pub room : limits_of (volume_of k1 o1 d1) ≡ limits_of old.volume

-- the same of a call that failed; the device refused nothing
pub record Fails (old : SessionState) (call : Call) (fault : CoreFault) (reply : Reply) (k1 : KfsState) (o1 : Opens) (d1 : Option Cause) : Type 0 where
  pub happens : Happens old call reply k1 o1 d1
  pub answerable : IsShowing old.volume → IsAnswerable fault

pub same_machine : (r : Tx) → SameMachine r.machine r.machine
same_machine r = record { up = refl; cuts = refl; faults = refl }

-- neither down nor off
abbrev pub IsAnswer : Reply → Type 0
IsAnswer (replies.Down cause) = ⊥
IsAnswer replies.Off = ⊥
IsAnswer reply = Unit {0}

still_counts : (old new : Machine) (reply : Reply) → IsAnswer reply → (new.cuts ≡ old.cuts) × (new.faults ≡ old.faults) → CountsFaults old reply new
still_counts old new (replies.Down cause) h e = absurd h
still_counts old new replies.Off h e = absurd h
still_counts old new reply h e = e

still_up : (old new : Volume) (reply : Reply) → IsAnswer reply → old.down ≡ None → new.down ≡ None → KeepsCause old reply new
still_up old new (replies.Down cause) h a b = absurd h
still_up old new replies.Off h a b = absurd h
still_up old new reply h a b = (a, b)

-- what is kept beside the running transaction, told part by part
pub by_parts : (k0 k1 : KfsState) {charge chunks : ℕ} → k1.keys ≡ k0.keys → k1.pages ≡ k0.pages → k1.charge ≡ charge → k1.chunks ≡ chunks → k1 ≡ record k0 { running = k1.running; charge = charge; chunks = chunks }
by_parts k0 k1 keys pages charge chunks = λ i. record { running = k1.running; keys = keys i; pages = pages i; charge = charge i; chunks = chunks i }

module _ (old : SessionState) (k0 k1 : KfsState) (o o1 : Opens) (d : Option Cause) (is : state_of k0 o d ≡ old) (up : d ≡ None) (call : Call) where
  -- answered
  pub answered : {running : RunningState} (reply : Reply) → IsAnswer reply → (tx : Tx) (charge chunks : ℕ) (files : Opens) → SameMachine (tx_in k0).machine tx.machine → tx_in k1 ≡ tx → k1 ≡ record k0 { running = running; charge = charge; chunks = chunks } → o1 ≡ files
      → GoesOn (volume_of k0 o d) (lines.Call call) (answers.Reply reply) (record (volume_of k0 o d) { tx = tx; charge = charge; chunks = chunks; files = files }) → Happens old call reply k1 o1 d
  answered reply is_answer tx charge chunks files same run_is rest files_is goes = record {
    goes = subst (λ (s : SessionState). GoesOn s.volume (lines.Call call) (answers.Reply reply) (volume_of k1 o1 d)) is
        (subst (λ (c : Volume). GoesOn (volume_of k0 o d) (lines.Call call) (answers.Reply reply) c)
        (λ i. record { tx = sym run_is i; keys = (sym rest i).keys; pages = (sym rest i).pages; charge = (sym rest i).charge; chunks = (sym rest i).chunks; files = sym files_is i; down = d }) goes);
    counts = subst (λ (s : SessionState). CountsFaults s.volume.tx.machine reply (tx_in k1).machine) is
        (still_counts (tx_in k0).machine (tx_in k1).machine reply is_answer (ap (λ (r : Tx). r.machine.cuts) run_is ∙ same.cuts, ap (λ (r : Tx). r.machine.faults) run_is ∙ same.faults));
    keeps = subst (λ (s : SessionState). KeepsCause s.volume reply (volume_of k1 o1 d)) is (still_up (volume_of k0 o d) (volume_of k1 o1 d) reply is_answer up up);
    room = ap (λ (k : KfsState). limits_of (volume_of k o d)) rest ∙ ap (λ (s : SessionState). limits_of s.volume) is;
  }

  -- refused, or down, whatever the open files are then
  pub stopped : (fault : CoreFault) (reply : Reply) (d1 : Option Cause) → reply ≡ refusal fault → d1 ≡ down_after d fault → limits_of (volume_of k1 o1 d1) ≡ limits_of (volume_of k0 o d)
      → CountsFaults (tx_in k0).machine (refusal fault) (tx_in k1).machine → Refuses (volume_of k0 o d) call fault (volume_of k1 o1 d1) → Fails old call fault reply k1 o1 d1
  stopped fault reply d1 reply_is down limits counts refuses = record {
    happens = record {
      goes = subst (λ (s : SessionState). GoesOn s.volume (lines.Call call) (answers.Reply reply) (volume_of k1 o1 d1)) is (subst (λ r. GoesOn (volume_of k0 o d) (lines.Call call) (answers.Reply r) (volume_of k1 o1 d1)) (sym reply_is) refuses.goes);
      counts = subst (λ (s : SessionState). CountsFaults s.volume.tx.machine reply (tx_in k1).machine) is (subst (λ r. CountsFaults (tx_in k0).machine r (tx_in k1).machine) (sym reply_is) counts);
      keeps = subst (λ (s : SessionState). KeepsCause s.volume reply (volume_of k1 o1 d1)) is
          (subst (λ r. KeepsCause (volume_of k0 o d) r (volume_of k1 o1 d1)) (sym reply_is) (refused_keeps (volume_of k0 o d) (volume_of k1 o1 d1) fault up down));
      room = limits ∙ ap (λ (s : SessionState). limits_of s.volume) is;
    };
    answerable = answers_it old k0 o d is up call fault (volume_of k1 o1 d1) refuses;
  }

  -- with them as they were
  pub failed : {running : RunningState} (fault : CoreFault) (reply : Reply) (d1 : Option Cause) → reply ≡ refusal fault → d1 ≡ down_after d fault → k1 ≡ record k0 { running = running } → o1 ≡ o
      → CountsFaults (tx_in k0).machine (refusal fault) (tx_in k1).machine → Refuses (volume_of k0 o d) call fault (record (volume_of k0 o d) { tx = tx_in k1; down = down_after d fault }) → Fails old call fault reply k1 o1 d1
  failed fault reply d1 reply_is down rest files_is counts refuses =
      stopped fault reply d1 reply_is down (ap (λ (k : KfsState). limits_of (volume_of k o d)) rest) counts
      (subst (Refuses (volume_of k0 o d) call fault) (λ i. record { tx = tx_in k1; keys = (sym rest i).keys; pages = (sym rest i).pages; charge = (sym rest i).charge; chunks = (sym rest i).chunks; files = sym files_is i; down = sym down i }) refuses)

  -- an error of the call
  pub erred : {running : RunningState} (e : Errno) (reply : Reply) (d1 : Option Cause) → reply ≡ replies.Err e → d1 ≡ d → tx_in k1 ≡ tx_in k0 → k1 ≡ record k0 { running = running } → o1 ≡ o
      → GoesOn (volume_of k0 o d) (lines.Call call) (answers.Reply (replies.Err e)) (volume_of k0 o d) → Fails old call (No e) reply k1 o1 d1
  erred e reply d1 reply_is down leaves rest files_is goes =
      failed (No e) reply d1 reply_is down rest files_is (same_counts (tx_in k0).machine (tx_in k1).machine (ap (λ (r : Tx). r.machine) leaves))
      (errs (volume_of k0 o d) (record (volume_of k0 o d) { tx = tx_in k1 }) call e (subst (λ (r : Tx). GoesOn (volume_of k0 o d) (lines.Call call) (answers.Reply (replies.Err e)) (record (volume_of k0 o d) { tx = r })) (sym leaves) goes))

  -- a fault with a cause from outside
  pub taken_down : {running : RunningState} (f : DeviceFault) (reply : Reply) (d1 : Option Cause) → reply ≡ refusal (Device f) → d1 ≡ down_after d (Device f) → (tx_in k0).machine.up ≡ true → k1 ≡ record k0 { running = running } → o1 ≡ o
      → Caused (tx_in k0).machine f (tx_in k1).machine → Refuses (volume_of k0 o d) call (Device f) (record (volume_of k0 o d) { tx = tx_in k1; down = Some (cause_of f) }) → Fails old call (Device f) reply k1 o1 d1
  taken_down f reply d1 reply_is down awake rest files_is caused refuses = failed (Device f) reply d1 reply_is down rest files_is (caused_counts (tx_in k0).machine f (tx_in k1).machine awake caused) refuses

  -- a fault before anything was changed
  pub unread : {running : RunningState} (f : DeviceFault) (reply : Reply) (d1 : Option Cause) → reply ≡ refusal (Device f) → d1 ≡ down_after d (Device f) → (tx_in k0).machine.up ≡ true → k1 ≡ record k0 { running = running } → o1 ≡ o
      → ((live : Live) → ShowsLive (volume_of k0 o d) live → (cause : Cause) → can_fail live.world call cause ≡ true) → GetFault (tx_in k0) f (tx_in k1).machine → Fails old call (Device f) reply k1 o1 d1
  unread f reply d1 reply_is down awake rest files_is can h =
      taken_down f reply d1 reply_is down awake rest files_is (alone_caused (tx_in k0).machine f (tx_in k1).machine h.1)
      (unread_falls (volume_of k0 o d) (record (volume_of k0 o d) { tx = tx_in k1; down = Some (cause_of f) }) call f up refl refl can h)

-- ---- the running transaction alone may have changed

module _ (old : SessionState) (k0 k1 : KfsState) (o : Opens) (d : Option Cause) (is : state_of k0 o d ≡ old) (up : d ≡ None) (rest : Stays k0 k1) (call : Call) where
  pub rests : (reply : Reply) → IsAnswer reply → (tx : Tx) → SameMachine (tx_in k0).machine tx.machine → tx_in k1 ≡ tx → GoesOn (volume_of k0 o d) (lines.Call call) (answers.Reply reply) (record (volume_of k0 o d) { tx = tx }) → Happens old call reply k1 o d
  rests reply is_answer tx same run_is goes =
      answered old k0 k1 o o d is up call reply is_answer tx k0.charge k0.chunks o same run_is rest refl goes

  -- with all as it was
  pub idle : (reply : Reply) → IsAnswer reply → tx_in k1 ≡ tx_in k0 → GoesOn (volume_of k0 o d) (lines.Call call) (answers.Reply reply) (volume_of k0 o d) → Happens old call reply k1 o d
  idle reply is_answer leaves goes = rests reply is_answer (tx_in k0) (same_machine (tx_in k0)) leaves goes

-- ---- the next numbers are low enough

module _ (old : SessionState) (k0 : KfsState) (o : Opens) (d : Option Cause) (is : state_of k0 o d ≡ old) (age : IsYoung old) where
  pub low_next : (tx_in k0).next + 1 < 2 ^ 63
  low_next = let a : age_of (running_in (state_of k0 o d)) < 2 ^ 63 - 2 ^ 40 = subst (λ s. age_of (running_in s) < 2 ^ 63 - 2 ^ 40) (sym is) age in omega arith

  pub low_count : (tx_in k0).changes + 1 < 2 ^ 63
  low_count = let a : age_of (running_in (state_of k0 o d)) < 2 ^ 63 - 2 ^ 40 = subst (λ s. age_of (running_in s) < 2 ^ 63 - 2 ^ 40) (sym is) age in omega arith
