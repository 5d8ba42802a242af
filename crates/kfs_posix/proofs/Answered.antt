-- Each call of a session, by what the tree's call did.
use Rattle.std.proofs.Common.{◌≡◌, ℕ, ◌<◌, ◌≤◌, ◌+◌, ◌-◌, ◌^◌, ◌==◌, inl, inr, true, false, cond, refl, sym, ◌∙◌, ap, subst, arith, List, Option, Some, None, is_some, Result, Ok, Err, Bool}
use Rattle.kfs_path.specs.declared.call.Call.{Call}
use Rattle.kfs_path.specs.declared.call.Call.TheVariants as calls
use Rattle.kfs_path.specs.declared.call.Reply.{Reply}
use Rattle.kfs_path.specs.declared.call.Reply.TheVariants as replies
use Rattle.kfs_path.specs.declared.call.Errno.{Errno}
use Rattle.kfs_path.specs.declared.call.Errno.TheVariants.{EBADF}
use Rattle.kv_device.specs.declared.fault.DeviceFault.{DeviceFault}
use Rattle.std.specs.Option.{option_map}
use Rattle.kfs_model.specs.Desk.{opened}
use Rattle.kfs_model.specs.Step.{settled, step, or_else, answers as answered_by}
use Rattle.kfs_model.specs.Life.{Live}
use Rattle.kfs_path.specs.declared.call.Cause.{Cause}
use Rattle.kfs_model.specs.declared.Line.TheVariants as lines
use Rattle.kfs_model.specs.declared.Answer.TheVariants as answers
use Rattle.kfs_model.specs.Ladder.{◌>>=◌}
use Rattle.kfs_model.specs.Tree.{Name}
use Rattle.kfs_tx.specs.Tx.{RunningState, Aged, age_of, seen, committed, CommitFault}
use Rattle.kfs_core.specs.declared.fault.CoreFault.{CoreFault}
use Rattle.kfs_core.specs.declared.fault.CoreFault.TheVariants.{No, Device}
use Rattle.kfs_core.specs.Core.{KfsState, tx_in, Stays}
use Rattle.kfs_core.specs.Flat.{Where, place_in}
use Rattle.kfs_core.specs.Returned.{RefusesAs, LeavesAtFault, CommitFails}
use Rattle.kfs_core.specs.Making.{MkdirFails, made, with_entry, parent_of}
use Rattle.kfs_posix.specs.declared.open_files.OpenFile.{OpenFile}
use Rattle.kfs_posix.specs.Opens.{Opens, open_at}
use Rattle.kfs_posix.specs.Volume.{Volume, SessionState, state_of, volume_of, running_in, limits_of, cause_of}
use Rattle.kfs_posix.specs.Answering.{Answers, IsYoung, refusal, down_after}
use Rattle.kfs_posix.specs.Looking.{found_by, names_by, told_by}
use Rattle.kfs_posix.specs.Showing.{ShowsLive, GoesOn}
use Rattle.std.specs.Prelude.{IsSome}
use Rattle.kfs_posix.proofs.Going.{spare, idle_goes, down_goes, Refuses}
use Rattle.kfs_posix.proofs.Held.{described, opened_same}
use Rattle.kfs_posix.proofs.Calls.{read_falls, any_cause, commit_goes, commit_falls_in, stat_goes, list_goes, sync_goes, sync_falls}
use Rattle.kfs_posix.proofs.Looking.{stat_same, list_same, told_ok, names_ok}
use Rattle.kfs_posix.proofs.Fault.{alone_caused, make_caused}
use Rattle.kfs_posix.proofs.Planned.{changed_same}
use Rattle.kfs_posix.proofs.Mkdir.{place_fits, mkdir_goes, mkdir_refused, mkdir_falls}
use Rattle.kfs_posix.specs.Turning.{Turn, turned}
use Rattle.kfs_posix.proofs.Turns.{Turns, turned_happens}
use Rattle.kfs_posix.proofs.Events.{unread, taken_down, erred, IsAnswer, by_parts, Happens, Fails, rests, idle, answered, low_next, low_count}

-- ---- stat and list

abbrev by_names : Result (List Name) Errno → Result Reply Errno
by_names r = r >>= names_ok

abbrev by_told : Result (ℕ × ℕ × ℕ) Errno → Result Reply Errno
by_told r = r >>= told_ok

module _ (old : SessionState) (k0 k1 : KfsState) (o : Opens) (d : Option Cause) (is : state_of k0 o d ≡ old) (up : d ≡ None) (awake : (tx_in k0).machine.up ≡ true) (rest : Stays k0 k1) where
  abbrev b : Volume
  b = volume_of k0 o d

  pub stat_answered : (path : List ℕ) (n kind size : ℕ) (reply : Reply) → found_by (seen (tx_in k0)) path ≡ Ok (n, kind, size) → reply ≡ told_by (n, kind, size) → tx_in k1 ≡ tx_in k0 → Happens old (calls.Stat path) reply k1 o d
  stat_answered path n kind size reply gives told leaves = idle old k0 k1 o d is up rest (calls.Stat path) reply (subst IsAnswer (sym told) (tells (kind == 1))) leaves
      (subst (λ r. GoesOn b (lines.Call (calls.Stat path)) (answers.Reply r) b) (sym told) (stat_goes b path (Ok (told_by (n, kind, size))) up (stat_same (seen (tx_in k0)) path ∙ ap by_told gives)))
    where
      tells : (dir : Bool) → IsAnswer (cond dir (replies.Dir n) (replies.File n size))
      tells true = tt
      tells false = tt

  pub stat_refused : (path : List ℕ) (reply : Reply) (fault : CoreFault) (d1 : Option Cause) → RefusesAs fault (found_by (seen (tx_in k0)) path) → LeavesAtFault (tx_in k0) fault (tx_in k1) → reply ≡ refusal fault → d1 ≡ down_after d fault → Fails old (calls.Stat path) fault reply k1 o d1
  stat_refused path reply (No e) d1 h leaves reply_is down = erred old k0 k1 o o d is up (calls.Stat path) e reply d1 reply_is down leaves rest refl (stat_goes b path (Err e) up (stat_same (seen (tx_in k0)) path ∙ ap by_told h))
  stat_refused path reply (Device f) d1 h leaves reply_is down =
      taken_down old k0 k1 o o d is up (calls.Stat path) f reply d1 reply_is down awake rest refl (alone_caused (tx_in k0).machine f (tx_in k1).machine leaves.1) (read_falls b (record b { tx = tx_in k1; down = Some (cause_of f) }) (calls.Stat path) f (λ w. refl) (λ w. refl) up refl refl leaves)

  pub list_answered : (path : List ℕ) (names : List Name) → k0.keys ≤ 68544 → names_by (seen (tx_in k0)) path ≡ Ok names → tx_in k1 ≡ tx_in k0 → Happens old (calls.List path) (replies.Names names) k1 o d
  list_answered path names small gives leaves = idle old k0 k1 o d is up rest (calls.List path) (replies.Names names) tt leaves
      (list_goes b path (Ok (replies.Names names)) up (omega arith) (list_same (seen (tx_in k0)) path ∙ ap by_names gives))

  pub list_refused : (path : List ℕ) (reply : Reply) (fault : CoreFault) (d1 : Option Cause) → k0.keys ≤ 68544 → RefusesAs fault (names_by (seen (tx_in k0)) path) → LeavesAtFault (tx_in k0) fault (tx_in k1) → reply ≡ refusal fault → d1 ≡ down_after d fault → Fails old (calls.List path) fault reply k1 o d1
  list_refused path reply (No e) d1 small h leaves reply_is down = erred old k0 k1 o o d is up (calls.List path) e reply d1 reply_is down leaves rest refl (list_goes b path (Err e) up (omega arith) (list_same (seen (tx_in k0)) path ∙ ap by_names h))
  list_refused path reply (Device f) d1 small h leaves reply_is down =
      taken_down old k0 k1 o o d is up (calls.List path) f reply d1 reply_is down awake rest refl (alone_caused (tx_in k0).machine f (tx_in k1).machine leaves.1) (read_falls b (record b { tx = tx_in k1; down = Some (cause_of f) }) (calls.List path) f (λ w. refl) (λ w. refl) up refl refl leaves)

  -- ---- sync

  pub commit_answered : (call : Call) → tx_in k1 ≡ committed (tx_in k0) → GoesOn b (lines.Call call) (answers.Reply replies.Done) (record b { tx = committed (tx_in k0) }) → Happens old call replies.Done k1 o d
  commit_answered call done goes = rests old k0 k1 o d is up rest call replies.Done tt (committed (tx_in k0)) (record { up = refl; cuts = refl; faults = refl }) done goes

  pub commit_refused : (call : Call) (reply : Reply) (fault : CoreFault) (d1 : Option Cause) → CommitFails (tx_in k0) (tx_in k1) fault → reply ≡ refusal fault → d1 ≡ down_after d fault
      → ((f : DeviceFault) → CommitFault (tx_in k0) f (tx_in k1).machine → Refuses b call (Device f) (record b { tx = tx_in k1; down = Some (cause_of f) })) → Fails old call fault reply k1 o d1
  commit_refused call reply (No e) d1 h reply_is down falls = absurd h
  commit_refused call reply (Device f) d1 h reply_is down falls = taken_down old k0 k1 o o d is up call f reply d1 reply_is down awake rest refl h.1 (falls f h)

  pub sync_answered : tx_in k1 ≡ committed (tx_in k0) → Happens old calls.Sync replies.Done k1 o d
  sync_answered done = commit_answered calls.Sync done (sync_goes b up)

  pub sync_refused : (reply : Reply) (fault : CoreFault) (d1 : Option Cause) → CommitFails (tx_in k0) (tx_in k1) fault → reply ≡ refusal fault → d1 ≡ down_after d fault → Fails old calls.Sync fault reply k1 o d1
  sync_refused reply fault d1 fails reply_is down = commit_refused calls.Sync reply fault d1 fails reply_is down (λ f h. sync_falls b (record b { tx = tx_in k1; down = Some (cause_of f) }) f up refl refl h)

  -- ---- fsync

  fsync_did : (fd : ℕ) (it : ℕ × OpenFile) → Some it ≡ open_at o fd → (live : Live) → ShowsLive b live → step (limits_of b) (spare b) live.world (calls.Fsync fd) ≡ record { world = live.world; reply = replies.Done }
  fsync_did fd it e live sh =
      ap (λ desk. settled live.world (or_else (opened desk fd) EBADF >>= λ it. answered_by live.world replies.Done)) sh.desk
      ∙ ap (λ x. settled live.world (or_else x EBADF >>= λ it. answered_by live.world replies.Done)) (opened_same o fd ∙ ap (option_map described) (sym e))

  pub fsync_answered : (fd : ℕ) (it : ℕ × OpenFile) → Some it ≡ open_at o fd → tx_in k1 ≡ committed (tx_in k0) → Happens old (calls.Fsync fd) replies.Done k1 o d
  fsync_answered fd it e done = commit_answered (calls.Fsync fd) done (commit_goes b (calls.Fsync fd) up (λ w. refl) refl (fsync_did fd it e))

  pub fsync_refused : (fd : ℕ) (it : ℕ × OpenFile) → Some it ≡ open_at o fd → (reply : Reply) (fault : CoreFault) (d1 : Option Cause) → CommitFails (tx_in k0) (tx_in k1) fault → reply ≡ refusal fault → d1 ≡ down_after d fault → Fails old (calls.Fsync fd) fault reply k1 o d1
  fsync_refused fd it e reply fault d1 fails reply_is down = commit_refused (calls.Fsync fd) reply fault d1 fails reply_is down
      (λ f h. commit_falls_in b (record b { tx = tx_in k1; down = Some (cause_of f) }) (calls.Fsync fd) f up refl refl (λ w. refl) refl (λ w cause. any_cause w (calls.Fsync fd) refl refl refl cause) (fsync_did fd it e) h)

-- ---- mkdir

module _ (old : SessionState) (k0 k1 : KfsState) (o : Opens) (d : Option Cause) (is : state_of k0 o d ≡ old) (up : d ≡ None) (awake : (tx_in k0).machine.up ≡ true) (age : IsYoung old) (keys : k1.keys ≡ k0.keys) (pages : k1.pages ≡ k0.pages) (chunks : k1.chunks ≡ k0.chunks) (path : List ℕ) where
  abbrev volume : Volume
  volume = volume_of k0 o d

  low : (tx_in k0).next + 1 < 2 ^ 63
  low = low_next old k0 o d is age

  few : (tx_in k0).changes + 1 < 2 ^ 63
  few = low_count old k0 o d is age

  pub mkdir_answered : (w : Where) → place_in (seen (tx_in k0)) k0.keys k0.charge path ≡ Ok w → tx_in k1 ≡ made (tx_in k0) (parent_of w) w.name → k1.charge ≡ k0.charge + 2 → Happens old (calls.Mkdir path) replies.Done k1 o d
  mkdir_answered w judged done charge =
      answered old k0 k1 o o d is up (calls.Mkdir path) replies.Done tt (made (tx_in k0) (parent_of w) w.name) (k0.charge + 2) k0.chunks o (changed_same (tx_in k0) (with_entry (tx_in k0) 1 (parent_of w) w.name) refl 4 ((tx_in k0).next + 1)) done (by_parts k0 k1 keys pages charge chunks) refl
      (mkdir_goes volume path w up low few (place_fits (seen (tx_in k0)) k0.keys k0.charge path w judged) judged)

  pub mkdir_not_made : (reply : Reply) (fault : CoreFault) (d1 : Option Cause) → MkdirFails (tx_in k0) (place_in (seen (tx_in k0)) k0.keys k0.charge path) fault (tx_in k1) → k1.charge ≡ k0.charge → reply ≡ refusal fault → d1 ≡ down_after d fault → Fails old (calls.Mkdir path) fault reply k1 o d1
  mkdir_not_made reply (No e) d1 h charge reply_is down = erred old k0 k1 o o d is up (calls.Mkdir path) e reply d1 reply_is down h.1 (by_parts k0 k1 keys pages charge chunks) refl (mkdir_refused volume path e up h.0)
  mkdir_not_made reply (Device f) d1 (inl h) charge reply_is down =
      unread old k0 k1 o o d is up (calls.Mkdir path) f reply d1 reply_is down awake (by_parts k0 k1 keys pages charge chunks) refl (λ live sh cause. any_cause live.world (calls.Mkdir path) refl refl refl cause) h
  mkdir_not_made reply (Device f) d1 (inr h) charge reply_is down =
      taken_down old k0 k1 o o d is up (calls.Mkdir path) f reply d1 reply_is down awake (by_parts k0 k1 keys pages charge chunks) refl (make_caused (tx_in k0) 1 (parent_of h.0) h.0.name f (tx_in k1).machine h.2)
      (mkdir_falls volume path (record volume { tx = tx_in k1; down = Some (cause_of f) }) h.0 f up refl refl low few (place_fits (seen (tx_in k0)) k0.keys k0.charge path h.0 h.1) h.1 h.2)

-- ---- a session that is down

pub aged_none : (s : RunningState) → Aged s s (2 ^ 38)
aged_none s = record { device = record { later = omega arith; bounded = omega arith }; whole = record { later = omega arith; bounded = omega arith } }

pub aged_by : (old : SessionState) (k0 k1 : KfsState) (o : Opens) (d : Option Cause) (n : ℕ) → n ≤ 2 ^ 38 → state_of k0 o d ≡ old → Aged k0.running k1.running n → Aged (running_in old) k1.running (2 ^ 38)
aged_by old k0 k1 o d n most is aged = subst (λ (s : SessionState). Aged (running_in s) k1.running (2 ^ 38)) is
    (record { device = record { later = aged.device.later; bounded = let h = aged.device.bounded in omega arith }; whole = record { later = aged.whole.later; bounded = let h = aged.whole.bounded in omega arith } })

pub off_answers : (old : SessionState) (k0 : KfsState) (o : Opens) (d : Option Cause) (call : Call) → state_of k0 o d ≡ old → true ≡ is_some d → Answers old call replies.Off old
off_answers old k0 o d call is down =
    let off : IsSome old.volume.down = ap (λ (s : SessionState). is_some s.volume.down) (sym is) ∙ sym down in
    record { goes_on = down_goes old.volume call off; counts = (refl, refl); room = refl; down = (off, refl); age = aged_none _ }

-- ---- what a call says, as one record

pub answers_of : (old : SessionState) (k0 k1 : KfsState) (o o1 : Opens) (d d1 : Option Cause) (call : Call) (reply : Reply) (n : ℕ) → n ≤ 2 ^ 38 → state_of k0 o d ≡ old → Aged k0.running k1.running n → Happens old call reply k1 o1 d1 → Answers old call reply (state_of k1 o1 d1)
answers_of old k0 k1 o o1 d d1 call reply n most is aged happens = record { goes_on = happens.goes; counts = happens.counts; room = happens.room; down = happens.keeps; age = aged_by old k0 k1 o d n most is aged }

pub turned_answers : (old : SessionState) (k0 : KfsState) (o o1 : Opens) (d : Option Cause) (is : state_of k0 o d ≡ old) (up : d ≡ None) (call : Call) (reply : Reply) (r : Result Turn Errno) (turns : Turns o call r) (done : record { files = o1; reply = reply } ≡ turned o r) → Answers old call reply (state_of k0 o1 d)
turned_answers old k0 o o1 d is up call reply r turns done = answers_of old k0 k0 o o1 d d call reply (2 ^ 38) (omega arith) is (aged_none _) (turned_happens old k0 o o1 d is up call reply r turns done)

-- the same of another call
pub named_answers : (old new : SessionState) (k j : Call) (reply : Reply) → k ≡ j → Answers old k reply new → Answers old j reply new
named_answers old new k j reply e answers = subst (λ k. Answers old k reply new) e answers

pub goes_answers : (old new : SessionState) (k j : Call) (reply : Reply) → GoesOn old.volume (lines.Call j) (answers.Reply reply) new.volume → Answers old k reply new → Answers old j reply new
goes_answers old new k j reply goes known = record { goes_on = goes; counts = known.counts; room = known.room; down = known.down; age = known.age }

pub age_in : (old : SessionState) (k0 : KfsState) (o : Opens) (d : Option Cause) → state_of k0 o d ≡ old → IsYoung old → age_of k0.running < 2 ^ 63 - 2 ^ 39
age_in old k0 o d is age = let a : age_of k0.running < 2 ^ 63 - 2 ^ 40 = subst (λ (s : SessionState). age_of (running_in s) < 2 ^ 63 - 2 ^ 40) (sym is) age in omega arith

pub keys_in : (old : SessionState) (k0 : KfsState) (o : Opens) (d : Option Cause) → state_of k0 o d ≡ old → old.volume.keys ≤ 68544 → k0.keys ≤ 68544
keys_in old k0 o d is small = subst (λ (s : SessionState). s.volume.keys ≤ 68544) (sym is) small

-- ---- room

room_goes : (b : Volume) → b.down ≡ None → GoesOn b (lines.Call calls.Room) (answers.Reply (replies.Room b.charge b.keys b.chunks b.pages)) b
room_goes b up = idle_goes b calls.Room (replies.Room b.charge b.keys b.chunks b.pages) up (λ w x. refl) refl (λ live sh. (λ i. record { world = live.world; reply = replies.Room (sym sh.charged i) b.keys (sym sh.chunked i) b.pages }))

pub room_answers : (old : SessionState) (k0 : KfsState) (o : Opens) (d : Option Cause) (reply : Reply) → state_of k0 o d ≡ old → d ≡ None → reply ≡ replies.Room k0.charge k0.keys k0.chunks k0.pages → Answers old calls.Room reply old
room_answers old k0 o d reply is up e =
    subst (Answers old calls.Room reply) is (subst (λ r. Answers old calls.Room r (state_of k0 o d)) (sym e)
    (answers_of old k0 k0 o o d d calls.Room (replies.Room k0.charge k0.keys k0.chunks k0.pages) (2 ^ 38) (omega arith) is (aged_none _)
    (idle old k0 k0 o d is up refl calls.Room (replies.Room k0.charge k0.keys k0.chunks k0.pages) tt refl (room_goes (volume_of k0 o d) up))))

-- a descriptor that isn't open
pub fsync_denied : (old : SessionState) (k0 : KfsState) (o : Opens) (d : Option Cause) (fd : ℕ) → state_of k0 o d ≡ old → d ≡ None → None ≡ open_at o fd → Answers old (calls.Fsync fd) (replies.Err EBADF) old
fsync_denied old k0 o d fd is up e =
    subst (Answers old (calls.Fsync fd) (replies.Err EBADF)) is
    (answers_of old k0 k0 o o d d (calls.Fsync fd) (replies.Err EBADF) (2 ^ 38) (omega arith) is (aged_none _) (erred old k0 k0 o o d is up (calls.Fsync fd) EBADF (replies.Err EBADF) d refl refl refl refl refl
    (idle_goes (volume_of k0 o d) (calls.Fsync fd) (replies.Err EBADF) up (λ w x. refl) refl (λ live sh.
    ap (λ desk. settled live.world (or_else (opened desk fd) EBADF >>= λ it. answered_by live.world replies.Done)) sh.desk
    ∙ ap (λ x. settled live.world (or_else x EBADF >>= λ it. answered_by live.world replies.Done)) (opened_same o fd ∙ ap (option_map described) (sym e))))).happens)
