-- Each call of a session as an event of a life.
use Rattle.std.proofs.Common.{◌≡◌, ℕ, ◌<◌, ◌≤◌, ◌^◌, ◌&&◌, inl, inr, true, false, Bool, refl, sym, ◌∙◌, ap, subst, arith, List, Option, Some, None, Result, Ok, Err, nat_le, is_some}
use Rattle.std.specs.FinMap as objects
use Rattle.std.proofs.lemmas.Bool.Decides.{nat_tests}
use Rattle.kv_device.specs.declared.fault.DeviceFault.{DeviceFault}
use Rattle.kv_device.specs.declared.fault.DeviceFault.TheVariants.{NoTx, Busy, TxFull, Full, BadSize, Off, Failed, Memory}
use Rattle.kv_device.specs.Objects.{Objects, page_count}
use Rattle.kv_device.specs.Machine.{Machine}
use Rattle.kv_device.specs.Calls.{has_room as fits_device}
use Rattle.kfs_path.specs.declared.call.Call.{Call}
use Rattle.kfs_path.specs.declared.call.Call.TheVariants as calls
use Rattle.kfs_path.specs.declared.call.Reply.{Reply}
use Rattle.kfs_path.specs.declared.call.Reply.TheVariants as replies
use Rattle.kfs_path.specs.declared.call.Errno.{Errno}
use Rattle.kfs_path.specs.declared.call.Cause.{Cause}
use Rattle.kfs_path.specs.declared.call.Cause.TheVariants.{Cut, Eio, NoMem}
use Rattle.kfs_model.specs.declared.Line.TheVariants as lines
use Rattle.kfs_model.specs.declared.Answer.TheVariants as answers
use Rattle.kfs_model.specs.Ladder.{◌>>=◌}
use Rattle.kfs_model.specs.Tree.{Tree, Limits, charge, has_room, IsTree}
use Rattle.kfs_model.specs.Step.{World, After, settled, step, answers as answered_by}
use Rattle.kfs_model.specs.Change.{weight, commits, is_boundary}
use Rattle.kfs_model.specs.Life.{Live, live_after, live_with, can_fail}
use Rattle.kfs_shows.specs.Shows.{Shows}
use Rattle.kfs_shows.proofs.Counting.{few_objects, few_pages}
use Rattle.kfs_tx.specs.Tx.{Tx, IsReady, GetFault, CommitFault, seen, committed}
use Rattle.kfs_tx.proofs.Seeing.{seen_committed}
use Rattle.kfs_tx.proofs.Falling.{get_falls, get_not_off, commit_falls}
use Rattle.kfs_core.specs.Flat.{stat_in, list_in}
use Rattle.kfs_core.specs.Stands.{Stands}
use Rattle.kfs_core.proofs.Judges.{stat_same}
use Rattle.kfs_core.proofs.Children.{list_same}
use Rattle.kfs_core.proofs.Small.{commit_small}
use Rattle.kfs_posix.specs.Volume.{Volume, limits_of, cause_of}
use Rattle.kfs_posix.specs.Showing.{ShowsLive, IsWhole, GoesOn}
use Rattle.kfs_posix.proofs.Rooms.{named_fits, room_of}
use Rattle.kfs_posix.proofs.Going.{spare, spare_free, as_before, as_synced, idle_goes, fall_goes, up_goes, answered, Refuses}
use Rattle.kfs_core.specs.declared.fault.CoreFault.TheVariants.{Device}

pub stands_of : (b : Volume) (live : Live) → ShowsLive b live → Stands (seen b.tx) live.world.tree
stands_of b live sh = record { tree = sh.tree; shows = sh.sees.tree; low = (let h = sh.low in omega arith) }

-- a session on a device of few keys sees few objects
pub few_seen : (b : Volume) (live : Live) → ShowsLive b live → b.keys < 2 ^ 32 → objects.len (seen b.tx) < 2 ^ 32
few_seen b live sh small =
    let le : charge live.world.tree ≤ b.keys = (room_of (limits_of b) live.world.tree sh.room).0 in
    let few = few_objects (seen b.tx) live.world.tree sh.tree sh.sees.tree (let h = sh.low in omega arith) in
    omega arith

-- what is answered where nothing changes
abbrev pub reply_of : Result Reply Errno → Reply
reply_of (Ok reply) = reply
reply_of (Err e) = replies.Err e

settled_reply : (w : World) (r : Result Reply Errno) → settled w (r >>= answered_by w) ≡ record { world = w; reply = reply_of r }
settled_reply w (Ok reply) = refl
settled_reply w (Err e) = refl

-- ---- stat

pub stat_goes : (old : Volume) (path : List ℕ) (r : Result Reply Errno) → old.down ≡ None → stat_in (seen old.tx) path ≡ r → GoesOn old (lines.Call (calls.Stat path)) (answers.Reply (reply_of r)) old
stat_goes old path r up is = idle_goes old (calls.Stat path) (reply_of r) up (λ w x. refl) refl (λ live sh.
    ap (λ s. settled live.world (s >>= answered_by live.world)) (stat_same (seen old.tx) live.world.tree (stands_of old live sh) path ∙ is) ∙ settled_reply live.world r)

can_read : (w : World) (call : Call) (r : Tx) (fault : DeviceFault) (new : Machine) → IsReady r → GetFault r fault new → can_fail w call Eio ≡ true → can_fail w call NoMem ≡ true → (cause : Cause) → cause ≡ cause_of fault → can_fail w call cause ≡ true
can_read w call r NoTx new ready h eio nomem cause e = ap (can_fail w call) e ∙ nomem
can_read w call r Busy new ready h eio nomem cause e = ap (can_fail w call) e ∙ nomem
can_read w call r TxFull new ready h eio nomem cause e = ap (can_fail w call) e ∙ nomem
can_read w call r (Full k p) new ready h eio nomem cause e = ap (can_fail w call) e ∙ nomem
can_read w call r BadSize new ready h eio nomem cause e = ap (can_fail w call) e ∙ nomem
can_read w call r Off new ready h eio nomem cause e = absurd (get_not_off r new ready h)
can_read w call r Failed new ready h eio nomem cause e = ap (can_fail w call) e ∙ eio
can_read w call r Memory new ready h eio nomem cause e = ap (can_fail w call) e ∙ nomem

-- a call that only reads meets a fault
pub read_falls : (old new : Volume) (call : Call) (fault : DeviceFault) → ((w : World) → can_fail w call Eio ≡ true) → ((w : World) → can_fail w call NoMem ≡ true) → old.down ≡ None → new.down ≡ Some (cause_of fault) → limits_of new ≡ limits_of old → GetFault old.tx fault new.tx.machine
    → Refuses old call (Device fault) new
read_falls old new call fault eio nomem up down same h = fall_goes old new call fault up down same (λ live sh. record {
  stands = old.tx.machine.stable;
  fallen = get_falls old.tx fault new.tx.machine sh.light.ready h;
  stood = as_before sh.saved;
  can = can_read live.world call old.tx fault new.tx.machine sh.light.ready h (eio live.world) (nomem live.world);
})

-- what the transaction sees may be saved
pub live_saved : (b : Volume) (live : Live) → ShowsLive b live → IsWhole (limits_of b) (seen b.tx) live.world.tree live.past.count
live_saved b live sh = record { tree = sh.tree; shows = sh.sees; next = sh.low; count = sh.few_changes; room = named_fits (limits_of b) live.world.tree sh.room }

-- ---- sync

-- a call that commits, whichever it is
pub commit_goes : (old : Volume) (call : Call) → old.down ≡ None → ((w : World) → weight w call (record { world = w; reply = replies.Done }) ≡ None) → commits call replies.Done ≡ true
    → ((live : Live) → ShowsLive old live → step (limits_of old) (spare old) live.world call ≡ record { world = live.world; reply = replies.Done }) → GoesOn old (lines.Call call) (answers.Reply replies.Done) (record old { tx = committed old.tx })
commit_goes old call up none does did = up_goes old (record old { tx = committed old.tx }) call replies.Done up (λ s live fits sh.
    let is = did live sh in
    let same : live_after live call (step (limits_of old) (spare old) live.world call) ≡ live_with live live.world None true =
    ap (live_after live call) is
    ∙ ap (λ (o : Option ℕ). live_with live live.world o (is_boundary live.since call replies.Done o)) (none live.world)
    ∙ ap (λ (f : Bool). live_with live live.world None f) does in
    answered old (record old { tx = committed old.tx }) s live call replies.Done (spare old) (spare_free old) sh (sym (ap (λ (a : After). a.reply) is)) (subst (ShowsLive (record old { tx = committed old.tx })) (sym same) (record {
      up = sh.up;
      tree = sh.tree;
      low = sh.low;
      few_changes = sh.few_changes;
      sees = subst (λ m. Shows m live.world.tree live.past.count) (sym (seen_committed old.tx sh.light.ready)) sh.sees;
      saved = subst (λ t. IsWhole (limits_of old) (seen old.tx) t live.past.count) (sym sh.newest) (live_saved old live sh);
      newest = sh.newest;
      behind = omega arith;
      desk = sh.desk;
      holds = sh.holds;
      count = sh.count;
      next = sh.next;
      changes = refl;
      weight = refl;
      light = (commit_small old.tx sh.light).1;
      keys = sh.keys;
      pages = sh.pages;
      charged = sh.charged;
      chunked = sh.chunked;
      room = sh.room;
    })) refl refl (record { most_cuts = refl; most_faults = refl; room_keys = refl; room_pages = refl }))

pub sync_goes : (old : Volume) → old.down ≡ None → GoesOn old (lines.Call calls.Sync) (answers.Reply replies.Done) (record old { tx = committed old.tx })
sync_goes old up = commit_goes old calls.Sync up (λ w. refl) refl (λ live sh. refl)

-- what shows a tree with room has room on the device
pub room_for : (m : Objects) (t : Tree) (n : ℕ) (k : Limits) (d : Machine) → IsTree t → Shows m t n → t.next ≤ 2 ^ 63 → has_room k t ≡ true → k.keys ≡ d.room_keys → k.pages ≡ d.room_pages → fits_device d m ≡ true
room_for m t n k d tree shows low room keys pages =
    let c = (room_of k t room).0 in
    let e = (room_of k t room).1 in
    let a = few_objects m t tree shows.tree low in
    let b = few_pages m t n tree shows low in
    let f : nat_le (objects.len m) d.room_keys ≡ true = grind (arith, nat_tests) in
    let g : nat_le (page_count m) d.room_pages ≡ true = grind (arith, nat_tests) in
    λ i. (f i && g i)

pub any_cause : (w : World) (call : Call) → can_fail w call Cut ≡ true → can_fail w call Eio ≡ true → can_fail w call NoMem ≡ true → (cause : Cause) → can_fail w call cause ≡ true
any_cause w call cut eio nomem Cut = cut
any_cause w call cut eio nomem Eio = eio
any_cause w call cut eio nomem NoMem = nomem

-- a call of any kind that meets a fault before it changed anything
pub unread_falls : (old new : Volume) (call : Call) (fault : DeviceFault) → old.down ≡ None → new.down ≡ Some (cause_of fault) → limits_of new ≡ limits_of old → ((live : Live) → ShowsLive old live → (cause : Cause) → can_fail live.world call cause ≡ true)
    → GetFault old.tx fault new.tx.machine → Refuses old call (Device fault) new
unread_falls old new call fault up down same can h = fall_goes old new call fault up down same (λ live sh. record {
  stands = old.tx.machine.stable;
  fallen = get_falls old.tx fault new.tx.machine sh.light.ready h;
  stood = as_before sh.saved;
  can = λ cause e. can live sh cause;
})

pub commit_falls_in : (old new : Volume) (call : Call) (fault : DeviceFault) → old.down ≡ None → new.down ≡ Some (cause_of fault) → limits_of new ≡ limits_of old
    → ((w : World) → weight w call (record { world = w; reply = replies.Done }) ≡ None) → commits call replies.Done ≡ true → ((w : World) (cause : Cause) → can_fail w call cause ≡ true)
    → ((live : Live) → ShowsLive old live → step (limits_of old) (spare old) live.world call ≡ record { world = live.world; reply = replies.Done })
    → CommitFault old.tx fault new.tx.machine → Refuses old call (Device fault) new
commit_falls_in old new call fault up down same none does can did h = fall_goes old new call fault up down same (λ live sh.
    let is = did live sh in
    elim (commit_falls old.tx fault new.tx.machine sh.light.ready (room_for (seen old.tx) live.world.tree live.past.count (limits_of old) old.tx.machine sh.tree sh.sees (let h = sh.low in omega arith) sh.room sh.keys sh.pages) h) [
      | inl a ↦ record { stands = old.tx.machine.stable; fallen = a; stood = as_before sh.saved; can = λ cause e. can live.world cause }
      | inr a ↦ record {
        stands = seen old.tx;
        fallen = a;
        stood = as_synced (ap (weight live.world call) is ∙ none live.world) (ap (λ (a : After). is_boundary live.since call a.reply None) is ∙ does) (subst (λ t. IsWhole (limits_of old) (seen old.tx) t live.past.count) (sym sh.newest) (live_saved old live sh));
        can = λ cause e. can live.world cause;
      }
    ])

pub sync_falls : (old new : Volume) (fault : DeviceFault) → old.down ≡ None → new.down ≡ Some (cause_of fault) → limits_of new ≡ limits_of old → CommitFault old.tx fault new.tx.machine → Refuses old calls.Sync (Device fault) new
sync_falls old new fault up down same h = commit_falls_in old new calls.Sync fault up down same (λ w. refl) refl (λ w cause. any_cause w calls.Sync refl refl refl cause) (λ live sh. refl) h

pub none_of : (o : Option Cause) → false ≡ is_some o → o ≡ None
none_of None e = refl
none_of (Some c) e = absurd (cc)

-- ---- list

pub list_goes : (old : Volume) (path : List ℕ) (r : Result Reply Errno) → old.down ≡ None → old.keys < 2 ^ 32 → list_in (seen old.tx) path ≡ r → GoesOn old (lines.Call (calls.List path)) (answers.Reply (reply_of r)) old
list_goes old path r up small is = idle_goes old (calls.List path) (reply_of r) up (λ w x. refl) refl (λ live sh.
    ap (λ s. settled live.world (s >>= answered_by live.world)) (list_same (seen old.tx) live.world.tree (stands_of old live sh) (few_seen old live sh small) path ∙ is) ∙ settled_reply live.world r)
