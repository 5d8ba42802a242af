-- Answered calls, and calls in which the session goes down, as events of a life.
use Rattle.std.proofs.Common.{◌≡◌, ℕ, suc, List, ◌<◌, ◌≤◌, ◌+◌, ◌^◌, ◌&&◌, inl, inr, true, false, cond, Bool, refl, sym, ◌∙◌, ap, subst, arith, [], ◌∷◌, Option, Some, None, is_some}
use Rattle.std.specs.Ordering.{nat_cmp}
use Rattle.std.specs.Option.{option_map}
use Rattle.std.specs.FinMap.{find}
use Rattle.std.specs.Prelude.{IsTrue}
use Rattle.kv_base.specs.Counts.{one_more}
use Rattle.kv_device.specs.declared.fault.DeviceFault.{DeviceFault}
use Rattle.kv_device.specs.declared.fault.DeviceFault.TheVariants.{NoTx, Busy, TxFull, Full, BadSize, Off, Failed, Memory}
use Rattle.kv_device.specs.Objects.{Objects}
use Rattle.kfs_path.specs.declared.call.Call.{Call}
use Rattle.kfs_path.specs.declared.call.Errno.{Errno}
use Rattle.kfs_path.specs.declared.call.Reply.{Reply}
use Rattle.kfs_path.specs.declared.call.Reply.TheVariants as replies
use Rattle.kfs_path.specs.declared.call.Cause.{Cause}
use Rattle.kfs_path.specs.declared.call.Cause.TheVariants.{Cut, Eio, NoMem}
use Rattle.kfs_model.specs.declared.Line.TheVariants as lines
use Rattle.kfs_model.specs.declared.Answer.TheVariants as answers
use Rattle.kfs_model.specs.Tree.{Tree, Limits}
use Rattle.kfs_model.specs.Desk.{Desk}
use Rattle.kfs_model.specs.Step.{World, After, step}
use Rattle.kfs_model.specs.Change.{weight, commits, is_boundary}
use Rattle.kfs_model.specs.Life.{State, Now, Up, Down, Live, Past, tree_at, past_after, live_with, live_after, fallen, with_now, disarmed, is_armed, can_fail, EventAt, IsFree}
use Rattle.kfs_tx.specs.Tx.{SameBounds, HasCause, Fallen, is_full}
use Rattle.kfs_core.specs.declared.fault.CoreFault.{CoreFault}
use Rattle.kfs_core.specs.declared.fault.CoreFault.TheVariants.{No, Device}
use Rattle.kfs_core.proofs.Outside.{outside_of}
use Rattle.kfs_posix.specs.Volume.{Volume, limits_of, cause_of}
use Rattle.kfs_posix.specs.declared.open_files.OpenFile.{OpenFile}
use Rattle.kfs_posix.specs.Opens.{Opens, desk_of}
use Rattle.kfs_posix.specs.Holding.{Holds}
use Rattle.kfs_posix.specs.Answering.{IsAnswerable, refusal}
use Rattle.kfs_posix.specs.Showing.{IsWhole, ShowsLive, ShowsDown, ShowsNow, ShowsState, Fits, GoesOn, one_if}
use Rattle.kfs_laws.proofs.Lookups.{number_apart}
use Rattle.kfs_posix.proofs.Maps.{find-map}
use Rattle.kfs_posix.proofs.Past.{older, newest}

-- an up session shows an up state alone
abbrev Goes : Volume → State → Now → Call → Reply → Volume → Type 0
Goes old s now call reply new = (t : State) × EventAt (limits_of old) s now (lines.Call call) (answers.Reply reply) t × ShowsNow new t.now × (ShowsState old s → ShowsState new t)

pub up_goes : (old new : Volume) (call : Call) (reply : Reply) → old.down ≡ None → ((s : State) (live : Live) → Fits old s → ShowsLive old live → Goes old s (Up live) call reply new) → GoesOn old (lines.Call call) (answers.Reply reply) new
up_goes old new call reply up h = record { each = λ s fits. by s fits s.now fits.now }
  where
    by : (s : State) → Fits old s → (now : Now) → ShowsNow old now → Goes old s now call reply new
    by s fits (Up live) sh = h s live fits sh
    by s fits (Down past may) sh = absurd (let e : None ≡ Some sh.cause = sym up ∙ sh.down in cc)

-- a session that is down answers so
pub down_goes : (old : Volume) (call : Call) → is_some old.down ≡ true → GoesOn old (lines.Call call) (answers.Reply replies.Off) old
down_goes old call down = record { each = λ s fits. by s fits s.now fits.now }
  where
    by : (s : State) → Fits old s → (now : Now) → ShowsNow old now → Goes old s now call replies.Off old
    by s fits (Up live) sh = absurd (let e : true ≡ false = sym down ∙ ap (is_some {T = Cause}) sh.up in cc)
    by s fits (Down past may) sh = (s, (refl, refl), fits.now, λ showing. showing)

-- a number above those of all descriptions
abbrev over : {A : Type 0} → List (ℕ × A) → ℕ
over [] = 0
over (e ∷ es) = suc (e.0 + over es)

find_over : {A : Type 0} (d : ℕ) (es : List (ℕ × A)) → over es ≤ d → find nat_cmp d es ≡ None
find_over d [] le = refl
find_over d (e ∷ es) le = ap (λ b. cond b (Some e.1) (find nat_cmp d es)) (number_apart d e.0 (omega arith)) ∙ find_over d es (omega arith)

abbrev pub spare : Volume → ℕ
spare b = over b.files.files

pub spare_free : (b : Volume) → find nat_cmp (spare b) b.files.files ≡ None
spare_free b = find_over (spare b) b.files.files (let e : spare b ≤ spare b = omega arith in e)

free : (b : Volume) (live : Live) (d : ℕ) → ShowsLive b live → find nat_cmp d b.files.files ≡ None → IsFree live.world d
free b live d sh none = ap (λ (k : Desk). is_some (find nat_cmp d k.descriptions)) sh.desk ∙ ap is_some (find-map (λ (f : OpenFile). f.it) d b.files.files) ∙ ap (λ o. is_some (option_map (λ (f : OpenFile). f.it) o)) none

-- where no count rose, the same is armed
still_armed : (old new : Volume) (s : State) (to : Now) → new.tx.machine.cuts ≡ old.tx.machine.cuts → new.tx.machine.faults ≡ old.tx.machine.faults → SameBounds old.tx.machine new.tx.machine → ShowsNow new to → ShowsState old s → ShowsState new (with_now s to)
still_armed old new s to cuts faults bounds shows showing = record {
  now = shows;
  cuts = let h = showing.cuts in let b = bounds.most_cuts in omega arith;
  faults = let h = showing.faults in let b = bounds.most_faults in omega arith;
  most_cuts = let h = showing.most_cuts in let b = bounds.most_cuts in omega arith;
  most_faults = let h = showing.most_faults in let b = bounds.most_faults in omega arith;
  few_cuts = let h = showing.few_cuts in let b = bounds.most_cuts in omega arith;
  few_faults = let h = showing.few_faults in let b = bounds.most_faults in omega arith;
}

-- answered: the live state that follows is shown
pub answered : (old new : Volume) (s : State) (live : Live) (call : Call) (reply : Reply) (d : ℕ) → find nat_cmp d old.files.files ≡ None → ShowsLive old live → reply ≡ (step (limits_of old) d live.world call).reply
    → ShowsLive new (live_after live call (step (limits_of old) d live.world call)) → new.tx.machine.cuts ≡ old.tx.machine.cuts → new.tx.machine.faults ≡ old.tx.machine.faults → SameBounds old.tx.machine new.tx.machine
    → Goes old s (Up live) call reply new
answered old new s live call reply d none sh is shows cuts faults bounds = (
  with_now s (Up (live_after live call (step (limits_of old) d live.world call))),
  (d, free old live d sh none, inl (is, refl)),
  shows,
  still_armed old new s (Up (live_after live call (step (limits_of old) d live.world call))) cuts faults bounds shows,
)

-- a call that changes nothing
pub idle_goes : (old : Volume) (call : Call) (reply : Reply) → old.down ≡ None → ((w x : World) → weight w call (record { world = x; reply = reply }) ≡ None) → commits call reply ≡ false
    → ((live : Live) → ShowsLive old live → step (limits_of old) (spare old) live.world call ≡ record { world = live.world; reply = reply }) → GoesOn old (lines.Call call) (answers.Reply reply) old
idle_goes old call reply up none quiet did = up_goes old old call reply up (λ s live fits sh.
    let after : After = record { world = live.world; reply = reply } in
    let is = did live sh in
    let same : live_after live call (step (limits_of old) (spare old) live.world call) ≡ live =
    ap (live_after live call) is
    ∙ ap (λ (o : Option ℕ). live_with live live.world o (is_boundary live.since call reply o)) (none live.world live.world)
    ∙ ap (λ (f : Bool). live_with live live.world None f) quiet in
    answered old old s live call reply (spare old) (spare_free old) sh (sym (ap (λ (a : After). a.reply) is)) (subst (ShowsLive old) (sym same) sh) refl refl (record { most_cuts = refl; most_faults = refl; room_keys = refl; room_pages = refl }))

-- a change; d is the number of the description that it makes
pub change_goes_at : (old new : Volume) (call : Call) (reply : Reply) (n d : ℕ) → find nat_cmp d old.files.files ≡ None → old.down ≡ None
    → new.tx.machine.cuts ≡ old.tx.machine.cuts → new.tx.machine.faults ≡ old.tx.machine.faults → SameBounds old.tx.machine new.tx.machine
    → ((live : Live) → ShowsLive old live → (w : World) × (step (limits_of old) d live.world call ≡ record { world = w; reply = reply }) × (weight live.world call (record { world = w; reply = reply }) ≡ Some n) × ShowsLive new (live_with live w (Some n) (is_full (old.tx.since + 1) (old.tx.weight + n))))
    → GoesOn old (lines.Call call) (answers.Reply reply) new
change_goes_at old new call reply n d none up cuts faults bounds did = up_goes old new call reply up (λ s live fits sh.
    let it = did live sh in
    let same : live_after live call (step (limits_of old) d live.world call) ≡ live_with live it.0 (Some n) (is_full (old.tx.since + 1) (old.tx.weight + n)) =
    ap (live_after live call) it.1
    ∙ ap (λ (o : Option ℕ). live_with live it.0 o (is_boundary live.since call reply o)) it.2
    ∙ (λ i. live_with live it.0 (Some n) (is_full (sym sh.changes i + 1) (sym sh.weight i + n))) in
    answered old new s live call reply d none sh (sym (ap (λ (a : After). a.reply) it.1)) (subst (ShowsLive new) (sym same) it.3) cuts faults bounds)

-- a call that changes nothing but the open files; d is the number of the description that it makes
pub turn_goes : (old : Volume) (files : Opens) (call : Call) (reply : Reply) (d : ℕ) → find nat_cmp d old.files.files ≡ None → old.down ≡ None → commits call reply ≡ false
    → ((live : Live) → ShowsLive old live → (step (limits_of old) d live.world call ≡ record { world = record { tree = live.world.tree; desk = desk_of files }; reply = reply })
    × (weight live.world call (record { world = record { tree = live.world.tree; desk = desk_of files }; reply = reply }) ≡ None) × Holds files live.world.tree)
    → GoesOn old (lines.Call call) (answers.Reply reply) (record old { files = files })
turn_goes old files call reply d none up quiet did = up_goes old (record old { files = files }) call reply up (λ s live fits sh.
    let it = did live sh in
    let w : World = record { tree = live.world.tree; desk = desk_of files } in
    let same : live_after live call (step (limits_of old) d live.world call) ≡ record live { world = w } =
    ap (live_after live call) it.0
    ∙ ap (λ (o : Option ℕ). live_with live w o (is_boundary live.since call reply o)) it.1
    ∙ ap (λ (f : Bool). live_with live w None f) quiet in
    answered old (record old { files = files }) s live call reply d none sh (sym (ap (λ (a : After). a.reply) it.0)) (subst (ShowsLive (record old { files = files })) (sym same) (record {
      up = sh.up;
      tree = sh.tree;
      low = sh.low;
      few_changes = sh.few_changes;
      sees = sh.sees;
      saved = sh.saved;
      newest = sh.newest;
      behind = sh.behind;
      desk = refl;
      holds = it.2;
      count = sh.count;
      next = sh.next;
      changes = sh.changes;
      weight = sh.weight;
      light = sh.light;
      keys = sh.keys;
      pages = sh.pages;
      charged = sh.charged;
      chunked = sh.chunked;
      room = sh.room;
    })) refl refl (record { most_cuts = refl; most_faults = refl; room_keys = refl; room_pages = refl }))

-- ---- going down

-- what stands after the failed call: the tree at mark, or that of the call's own boundary
pub data Stood (live : Live) (call : Call) (after : After) (k : Limits) (stands : Objects) : Type 0 where
  as_before : IsWhole k stands (tree_at live.past live.mark) live.mark → Stood live call after k stands
  as_after : (n : ℕ) → weight live.world call after ≡ Some n → is_boundary live.since call after.reply (Some n) ≡ true → IsWhole k stands after.world.tree (live.past.count + 1) → Stood live call after k stands
  as_synced : weight live.world call after ≡ None → is_boundary live.since call after.reply None ≡ true → IsWhole k stands (tree_at live.past live.past.count) live.past.count → Stood live call after k stands

old_tree : (past : Past) (t : Tree) (change : Option ℕ) (k : ℕ) → k ≤ past.count → tree_at (past_after past t change) k ≡ tree_at past k
old_tree past t None k le = refl
old_tree past t (Some n) k le = older past t k le

stood_down : (new : Volume) (live : Live) (call : Call) (after : After) (cause : Cause) (stands : Objects) → new.down ≡ Some cause → new.tx.machine.stable ≡ stands → live.mark ≤ live.past.count → new.keys ≡ new.tx.machine.room_keys → new.pages ≡ new.tx.machine.room_pages → Stood live call after (limits_of new) stands → ShowsNow new (fallen live call after)
stood_down new live call after cause stands down is behind keys pages (as_before shows) = record {
  cause = cause;
  down = down;
  stands = live.mark;
  may_be = inl refl;
  saved = subst (λ m. IsWhole (limits_of new) m (tree_at (past_after live.past after.world.tree (weight live.world call after)) live.mark) live.mark) (sym is)
      (subst (λ t. IsWhole (limits_of new) stands t live.mark) (sym (old_tree live.past after.world.tree (weight live.world call after) live.mark behind)) shows);
  keys = keys;
  pages = pages;
}
stood_down new live call after cause stands down is behind keys pages (as_after n weighs falls shows) =
    subst (λ (o : Option ℕ). ShowsDown new (past_after live.past after.world.tree o) (live.mark ∷ (cond (is_boundary live.since call after.reply o) ((past_after live.past after.world.tree o).count ∷ []) []))) (sym weighs)
    (subst (λ (f : Bool). ShowsDown new (past_after live.past after.world.tree (Some n)) (live.mark ∷ (cond f ((live.past.count + 1) ∷ []) []))) (sym falls)
    (record {
      cause = cause;
      down = down;
      stands = live.past.count + 1;
      may_be = inr (inl refl);
      saved = subst (λ m. IsWhole (limits_of new) m (tree_at (past_after live.past after.world.tree (Some n)) (live.past.count + 1)) (live.past.count + 1)) (sym is)
          (subst (λ t. IsWhole (limits_of new) stands t (live.past.count + 1)) (sym (newest live.past after.world.tree)) shows);
      keys = keys;
      pages = pages;
    }))
stood_down new live call after cause stands down is behind keys pages (as_synced weighs falls shows) =
    subst (λ (o : Option ℕ). ShowsDown new (past_after live.past after.world.tree o) (live.mark ∷ (cond (is_boundary live.since call after.reply o) ((past_after live.past after.world.tree o).count ∷ []) []))) (sym weighs)
    (subst (λ (f : Bool). ShowsDown new live.past (live.mark ∷ (cond f (live.past.count ∷ []) []))) (sym falls)
    (record {
      cause = cause;
      down = down;
      stands = live.past.count;
      may_be = inr (inl refl);
      saved = subst (λ m. IsWhole (limits_of new) m (tree_at live.past live.past.count) live.past.count) (sym is) shows;
      keys = keys;
      pages = pages;
    }))

-- a count that rose is at its bound, where no more than what is armed was planned
rose : (old new most : ℕ) (armed : Bool) → most ≤ old + one_if armed → most < 2 ^ 63 → (new ≤ most) × (new ≡ one_more old) → most ≤ new
rose old new most armed le few rises = by armed le
  where
    more : old < new
    more = let least = rises.1 in let most = rises.0 in let t : old < new = omega arith in t

    by : (armed : Bool) → most ≤ old + one_if armed → most ≤ new
    by true le = omega arith
    by false le = absurd (let h = rises.0 in omega arith)

both_true : (a b : Bool) → a ≡ true → b ≡ true → (a && b) ≡ true
both_true a b e f = λ i. (e i && f i)

-- why it goes down, and what stands then
pub record Fell (old new : Volume) (live : Live) (call : Call) (fault : DeviceFault) : Type 0 where
  pub stands : Objects
  pub fallen : Fallen old.tx.machine fault stands new.tx.machine
  pub stood : Stood live call (step (limits_of old) (spare old) live.world call) (limits_of old) stands
  pub can : (cause : Cause) → cause ≡ cause_of fault → can_fail live.world call cause ≡ true

-- the call answers a fault, and goes down by it where it is the device's; the device refused nothing
pub record Refuses (old : Volume) (call : Call) (fault : CoreFault) (new : Volume) : Type 0 where
  pub goes : GoesOn old (lines.Call call) (answers.Reply (refusal fault)) new
  pub answerable : (live : Live) → ShowsLive old live → IsAnswerable fault

-- an error of the call is no refusal of the device
pub errs : (old new : Volume) (call : Call) (e : Errno) → GoesOn old (lines.Call call) (answers.Reply (replies.Err e)) new → Refuses old call (No e) new
errs old new call e goes = record { goes = goes; answerable = λ live sh. tt }

-- the session goes down in the call
pub fall_goes : (old new : Volume) (call : Call) (fault : DeviceFault) → old.down ≡ None → new.down ≡ Some (cause_of fault) → limits_of new ≡ limits_of old
    → ((live : Live) → ShowsLive old live → Fell old new live call fault)
    → Refuses old call (Device fault) new
fall_goes old new call fault up down same fell = record { goes = goes; answerable = λ live sh. outside_of old.tx.machine new.tx.machine fault (fell live sh).fallen.cause }
  where
    by : (s : State) → Fits old s → (live : Live) → ShowsLive old live → (to : Now) → (fault : DeviceFault) → new.down ≡ Some (cause_of fault) → ((cause : Cause) → cause ≡ cause_of fault → can_fail live.world call cause ≡ true) → HasCause old.tx.machine fault new.tx.machine → SameBounds old.tx.machine new.tx.machine
        → ((cause : Cause) → new.down ≡ Some cause → ShowsNow new to)
        → (t : State) × ((cause : Cause) × (replies.Down (cause_of fault) ≡ replies.Down cause) × IsTrue (is_armed s cause && can_fail live.world call cause) × (t ≡ disarmed s cause to)) × ShowsNow new t.now × (ShowsState old s → ShowsState new t)
    by s fits live sh to NoTx down can cause bounds shows = absurd cause
    by s fits live sh to Busy down can cause bounds shows = absurd cause
    by s fits live sh to TxFull down can cause bounds shows = absurd cause
    by s fits live sh to (Full k p) down can cause bounds shows = absurd cause
    by s fits live sh to BadSize down can cause bounds shows = absurd cause
    by s fits live sh to Off down can cause bounds shows =
        let c : new.tx.machine.cuts ≤ old.tx.machine.most_cuts = cause.0.0 in
        let may : one_more old.tx.machine.cuts ≤ old.tx.machine.most_cuts = subst (λ n. n ≤ old.tx.machine.most_cuts) cause.0.1 c in (
          disarmed s Cut to,
          (Cut, refl, both_true s.cut_armed (can_fail live.world call Cut) (fits.cuts may) (can Cut refl), refl),
          shows Cut down,
          λ showing.
              let armed : old.tx.machine.most_cuts ≤ old.tx.machine.cuts + one_if s.cut_armed = let h = showing.cuts in omega arith in
              let r = rose old.tx.machine.cuts new.tx.machine.cuts old.tx.machine.most_cuts s.cut_armed armed showing.few_cuts cause.0 in
              record {
                now = shows Cut down;
                cuts = let b = bounds.most_cuts in omega arith;
                faults = let h = showing.faults in let b = bounds.most_faults in let f = cause.1 in omega arith;
                most_cuts = let b = bounds.most_cuts in omega arith;
                most_faults = let h = showing.most_faults in let b = bounds.most_faults in let f = cause.1 in omega arith;
                few_cuts = let h = showing.few_cuts in let b = bounds.most_cuts in omega arith;
                few_faults = let h = showing.few_faults in let b = bounds.most_faults in omega arith;
              },
        )
    by s fits live sh to Failed down can cause bounds shows =
        let c : new.tx.machine.faults ≤ old.tx.machine.most_faults = cause.0.0 in
        let may : one_more old.tx.machine.faults ≤ old.tx.machine.most_faults = subst (λ n. n ≤ old.tx.machine.most_faults) cause.0.1 c in (
          disarmed s Eio to,
          (Eio, refl, both_true s.fail_armed (can_fail live.world call Eio) (fits.faults may) (can Eio refl), refl),
          shows Eio down,
          λ showing.
              let r = rose old.tx.machine.faults new.tx.machine.faults old.tx.machine.most_faults s.fail_armed showing.faults showing.few_faults cause.0 in
              record {
                now = shows Eio down;
                cuts = let h = showing.cuts in let b = bounds.most_cuts in let f = cause.1 in omega arith;
                faults = let b = bounds.most_faults in omega arith;
                most_cuts = let h = showing.most_cuts in let b = bounds.most_cuts in let f = cause.1 in omega arith;
                most_faults = let b = bounds.most_faults in omega arith;
                few_cuts = let h = showing.few_cuts in let b = bounds.most_cuts in omega arith;
                few_faults = let h = showing.few_faults in let b = bounds.most_faults in omega arith;
              },
        )
    by s fits live sh to Memory down can cause bounds shows = (
      disarmed s NoMem to,
      (NoMem, refl, both_true true (can_fail live.world call NoMem) refl (can NoMem refl), refl),
      shows NoMem down,
      still_armed old new s to cause.0 cause.1 bounds (shows NoMem down),
    )

    goes : GoesOn old (lines.Call call) (answers.Reply (replies.Down (cause_of fault))) new
    goes = up_goes old new call (replies.Down (cause_of fault)) up (λ s live fits sh.
        let after = step (limits_of old) (spare old) live.world call in
        let f = fell live sh in
        let shows : (cause : Cause) → new.down ≡ Some cause → ShowsNow new (fallen live call after) = λ cause e. stood_down new live call after cause f.stands e f.fallen.stable sh.behind (ap (λ (k : Limits). k.keys) same ∙ sh.keys ∙ sym f.fallen.bounds.room_keys) (ap (λ (k : Limits). k.pages) same ∙ sh.pages ∙ sym f.fallen.bounds.room_pages) (subst (λ k. Stood live call after k f.stands) (sym same) f.stood) in
        let it = by s fits live sh (fallen live call after) fault down f.can f.fallen.cause f.fallen.bounds shows in
        (it.0, (spare old, free old live (spare old) sh (spare_free old), inr it.1), it.2, it.3))
