-- Calls and plans on a session or its device, as events of a life.
use Rattle.std.proofs.Common.{Option, ◌≡◌, ◌<◌, ◌≤◌, ◌+◌, ◌-◌, ◌^◌, inl, ◌∙◌, ℕ, max, Bool, true, false, [], ◌∷◌, Some, refl, sym, ap, subst, arith, nat_le}
use Rattle.std.specs.Prelude.{IsTrue, ◌&&◌}
use Rattle.std.proofs.lemmas.Bool.Decides.{nat_tests}
use Rattle.kv_base.specs.Counts.{one_more}
use Rattle.kv_device.specs.Objects.{Objects}
use Rattle.kv_device.specs.Machine.{Machine, down, restarted, begun, with_most_cuts, with_most_faults}
use Rattle.kv_device.specs.Calls.{Ages}
use Rattle.kfs_path.specs.declared.call.Call.{Call}
use Rattle.kfs_path.specs.declared.call.Cause.{Cause}
use Rattle.kfs_path.specs.declared.call.Cause.TheVariants as causes
use Rattle.kfs_path.specs.declared.call.Reply.{Reply}
use Rattle.kfs_path.specs.declared.call.Reply.TheVariants as replies
use Rattle.kfs_model.specs.declared.Line.{Line}
use Rattle.kfs_model.specs.declared.Line.TheVariants as lines
use Rattle.kfs_model.specs.declared.Answer.{Answer}
use Rattle.kfs_model.specs.declared.Answer.TheVariants as answers
use Rattle.kfs_model.specs.Desk.{empty_desk}
use Rattle.kfs_model.specs.Tree.{Tree, Limits, root_alone, number_at, has_room}
use Rattle.kfs_model.specs.Life.{State, Live, Now, Up, Down, Past, tree_at, up_at, with_now, disarmed, is_armed, AnyOf, Event, EventAt, newborn, nothing_since}
use Rattle.kfs_shows.specs.Named.{AllNamed}
use Rattle.kfs_shows.proofs.Fresh.{root_is_tree, first_shows}
use Rattle.kfs_shows.proofs.AllNamed.{named_whole}
use Rattle.kfs_tx.specs.Tx.{SameBounds, age_of, Aged}
use Rattle.kfs_core.specs.declared.fault.HostFault.{HostFault}
use Rattle.kfs_core.specs.declared.fault.HostFault.TheVariants.{Damaged, Cut, Eio, NoMem}
use Rattle.kfs_core.specs.Clearing.{Keeps}
use Rattle.kfs_core.proofs.Cleared.{kept_all}
use Rattle.kfs_posix.proofs.Mounting.{saved_still, whole_saved}
use Rattle.kfs_posix.proofs.Shown.{planned as planned_goes}
use Rattle.kfs_core.specs.Starting.{NotMounted, HostCause, first_objects}
use Rattle.kfs_posix.specs.Answering.{CountsFaults}
use Rattle.kfs_posix.specs.Volume.{Volume, SessionState, limits_of, running_in}
use Rattle.kfs_posix.specs.Showing.{ShowsLive, ShowsNow, ShowsState, IsSaved, GoesOn, one_if}
use Rattle.kfs_posix.specs.Mounting.{limits_in, Mounts}
use Rattle.kfs_runner.specs.Numbers.{line_age}
use Rattle.kfs_runner.specs.Refusals.{Rested, whole_in}
use Rattle.kfs_runner.specs.Stores.{WakeCause, NotWoken}
use Rattle.kfs_runner.specs.Strikes.{strikes_of, struck, is_cut, is_failure}
use Rattle.kfs_runner.proofs.Lives.{event_arms}
use Rattle.kfs_runner.proofs.Planning.{one_if_le, by_states, same_cut}
use Rattle.kfs_damages.specs.Damages.{IsTreeDamage}
use Rattle.kfs_judge.specs.Judging.{heard, room_in}
use Rattle.kv_base.specs.declared.damage.Damage.{Damage}
use Rattle.kfs_runner.specs.MountPoints.{MountState, Mounted, Bare, AreArmed, StandsAt, Stores, IsDown, ShowsBare, Known, IsNew, shows_point, point_limits, point_machine, point_age, device_age, most_of, PointGoes}

-- ---- what is shown is stored

pub limits_now : (b : Volume) (now : Now) → ShowsNow b now → limits_of b ≡ limits_in b.tx.machine
limits_now b (Up live) shows = λ i. record { keys = shows.keys i; pages = shows.pages i }
limits_now b (Down past may) shows = λ i. record { keys = shows.keys i; pages = shows.pages i }

stores_now : (b : Volume) (now : Now) → ShowsNow b now → (past : Past) × (k : ℕ) × StandsAt now past k × IsSaved (limits_in b.tx.machine) b.tx.machine.stable (tree_at past k) k
stores_now b (Up live) shows =
    let P : Limits → Type 0 = λ l. IsSaved l b.tx.machine.stable (tree_at live.past live.mark) live.mark in
    (live.past, live.mark, (refl, refl), subst P (limits_now b (Up live) shows) (whole_saved (limits_of b) b.tx.machine.stable (tree_at live.past live.mark) live.mark shows.saved))
stores_now b (Down past may) shows =
    let P : Limits → Type 0 = λ l. IsSaved l b.tx.machine.stable (tree_at past shows.stands) shows.stands in
    (past, shows.stands, (refl, shows.may_be), subst P (limits_now b (Down past may) shows) (whole_saved (limits_of b) b.tx.machine.stable (tree_at past shows.stands) shows.stands shows.saved))

armed_session : (b : Volume) (s : State) → ShowsState b s → AreArmed b.tx.machine s
armed_session b s shows = record {
  cuts = shows.cuts;
  faults = shows.faults;
  most_cuts = shows.most_cuts;
  most_faults = shows.most_faults;
  few_cuts = shows.few_cuts;
  few_faults = shows.few_faults;
}

pub point_stores : (point : MountState) (s : State) → shows_point point s → Stores (point_machine point) s
point_stores (Mounted session) s shows =
    let it = stores_now session.volume s.now shows.now in
    record { past = it.0; k = it.1; stands = it.2; saved = it.3; armed = armed_session session.volume s shows }
point_stores (Bare m age rested) s shows = shows.stores

pub point_room : (point : MountState) (s : State) → shows_point point s → point_limits point ≡ limits_in (point_machine point)
point_room (Mounted session) s shows = limits_now session.volume s.now shows.now
point_room (Bare m age rested) s shows = refl

-- what is known has the room of its device, and the counts of some state
pub known_room : (point : MountState) → Known point → point_limits point ≡ limits_in (point_machine point)
known_room (Mounted session) known = limits_now session.volume known.0.now known.1.now
known_room (Bare m age rested) known = refl

pub known_armed : (point : MountState) → Known point → (s : State) × AreArmed (point_machine point) s
known_armed (Mounted session) known = (known.0, armed_session session.volume known.0 known.1)
known_armed (Bare m age rested) known = known

pub point_keys : (point : MountState) → Known point → (point_limits point).keys ≡ (point_machine point).room_keys
point_keys point known = ap (λ (l : Limits). l.keys) (known_room point known)

pub most_le : (point : MountState) → most_of (point_machine point) ≤ point_age point
most_le (Mounted session) = omega arith
most_le (Bare m age rested) = omega arith

-- counts that stayed
pub unstruck : (old new : Machine) (answer : Answer) → is_cut answer ≡ false → is_failure answer ≡ false → new.cuts ≡ old.cuts → new.faults ≡ old.faults → strikes_of new ≡ struck (strikes_of old) answer
unstruck old new answer no_cut no_failure cuts faults =
    let c : one_if (is_cut answer) ≡ 0 = ap one_if no_cut in
    let f : one_if (is_failure answer) ≡ 0 = ap one_if no_failure in
    let cuts_now : new.cuts ≡ old.cuts + one_if (is_cut answer) = omega (arith, cuts, c) in
    let faults_now : new.faults ≡ old.faults + one_if (is_failure answer) = omega (arith, faults, f) in
    λ i. record { cuts = cuts_now i; faults = faults_now i }

-- what is known has few counts
pub low_counts : (point : MountState) → Known point → ((point_machine point).cuts < 2 ^ 63) × ((point_machine point).faults < 2 ^ 63)
low_counts point known =
    let armed = (known_armed point known).1 in
    (omega (arith, armed.most_cuts, armed.few_cuts), omega (arith, armed.most_faults, armed.few_faults))

-- objects that stay have the same damage
pub damage_still : (old new : Machine) (damage : Damage) → new.stable ≡ old.stable → limits_in new ≡ limits_in old → IsTreeDamage (room_in old) (heard old.stable) damage → IsTreeDamage (room_in new) (heard new.stable) damage
damage_still old new damage stable room is =
    let L : Limits → Type 0 = λ l. IsTreeDamage l (heard new.stable) damage in
    let O : Objects → Type 0 = λ o. IsTreeDamage (room_in old) (heard o) damage in
    subst L (sym room) (subst O (sym stable) is)

-- ---- a call

counts_le : (old : Machine) (reply : Reply) (new : Machine) → CountsFaults old reply new → old.cuts ≤ old.most_cuts → old.faults ≤ old.most_faults → (new.cuts ≤ old.most_cuts) × (new.faults ≤ old.most_faults)
counts_le old (replies.Down causes.Cut) new c cuts faults = (c.0.0, omega (arith, c.1))
counts_le old (replies.Down causes.Eio) new c cuts faults = (omega (arith, c.1), c.0.0)
counts_le old reply new c cuts faults = (omega (arith, c.0), omega (arith, c.1))

call_age : (old_age new_age old_cuts old_faults cuts faults : ℕ) → new_age ≤ old_age + 2 ^ 38 → cuts ≤ old_cuts + 1 → faults ≤ old_faults + 1 → max new_age (max cuts faults) ≤ max (max old_age (max old_cuts old_faults)) (2 ^ 62) + line_age
call_age old_age new_age old_cuts old_faults cuts faults a b c = omega arith

struck_by_reply : (old new : Machine) (reply : Reply) → old.cuts < 2 ^ 63 → old.faults < 2 ^ 63 → CountsFaults old reply new → strikes_of new ≡ struck (strikes_of old) (answers.Reply reply)
struck_by_reply old new (replies.Down causes.Cut) low_cuts low_faults c =
    let cuts : new.cuts ≡ old.cuts + 1 = omega (arith, c.0.1, low_cuts) in
    let faults : new.faults ≡ old.faults + 0 = omega (arith, c.1) in
    λ i. record { cuts = cuts i; faults = faults i }
struck_by_reply old new (replies.Down causes.Eio) low_cuts low_faults c =
    let cuts : new.cuts ≡ old.cuts + 0 = omega (arith, c.1) in
    let faults : new.faults ≡ old.faults + 1 = omega (arith, c.0.1, low_faults) in
    λ i. record { cuts = cuts i; faults = faults i }
struck_by_reply old new reply low_cuts low_faults c = unstruck old new (answers.Reply reply) refl refl c.0 c.1

-- what a line of a session leads to
event_of : (old new : Volume) (line : Line) (answer : Answer) → GoesOn old line answer new → (s : State) → ShowsState old s → (t : State) × Event (limits_of old) s line answer t × ShowsState new t
event_of old new line answer goes s shows = planned_goes old line answer new goes s shows

pub call_goes : (old new : SessionState) (call : Call) (reply : Reply) → Known (Mounted old) → GoesOn old.volume (lines.Call call) (answers.Reply reply) new.volume → CountsFaults old.volume.tx.machine reply new.volume.tx.machine → limits_of new.volume ≡ limits_of old.volume → Aged (running_in old) (running_in new) (2 ^ 38) → PointGoes (Mounted old) (lines.Call call) (answers.Reply reply) (Mounted new)
call_goes old new call reply known goes counts room aged =
    let low = low_counts (Mounted old) known in
    let it = event_of old.volume new.volume (lines.Call call) (answers.Reply reply) goes known.0 known.1 in
    let few = counts_le old.volume.tx.machine reply new.volume.tx.machine counts known.1.most_cuts known.1.most_faults in
    let cuts : new.volume.tx.machine.most_cuts ≤ old.volume.tx.machine.most_cuts + 1 = omega (arith, it.2.cuts, one_if_le it.0.cut_armed, few.0) in
    let faults : new.volume.tx.machine.most_faults ≤ old.volume.tx.machine.most_faults + 1 = omega (arith, it.2.faults, one_if_le it.0.fail_armed, few.1) in
    record {
      known = (it.0, it.2);
      limits = room;
      age = call_age (age_of (running_in old)) (age_of (running_in new)) old.volume.tx.machine.most_cuts old.volume.tx.machine.most_faults new.volume.tx.machine.most_cuts new.volume.tx.machine.most_faults aged.whole.bounded cuts faults;
      device = omega (arith, aged.device.bounded);
      strikes = struck_by_reply old.volume.tx.machine new.volume.tx.machine reply low.0 low.1 counts;
      whole = λ before young. tt;
      each = λ s shows at whole young. event_of old.volume new.volume (lines.Call call) (answers.Reply reply) goes s shows;
      damaged = λ damage none. absurd none;
      plans = by_states old.volume.tx.machine new.volume.tx.machine (lines.Call call) (answers.Reply reply) known.0.cut_armed it.0.cut_armed known.1.cuts it.2.cuts (event_arms (limits_of old.volume) known.0 known.0.now (lines.Call call) (answers.Reply reply) it.0 it.1);
      unmountable = λ damage none takes low. absurd none;
    }

off_at : (l : Limits) (s : State) (now : Now) (call : Call) → IsDown now → EventAt l s now (lines.Call call) (answers.Reply replies.Off) s
off_at l s (Up live) call down = absurd down
off_at l s (Down past may) call down = (refl, refl)

pub off_goes : (m : Machine) (age : ℕ) (rested : Option Rested) (call : Call) → Known (Bare m age rested) → PointGoes (Bare m age rested) (lines.Call call) (answers.Reply replies.Off) (Bare m age rested)
off_goes m age rested call known = record {
  known = known;
  limits = refl;
  age = omega arith;
  device = omega arith;
  strikes = unstruck m m (answers.Reply replies.Off) refl refl refl refl;
  whole = λ before young. before;
  each = λ s shows at whole young. (s, off_at (point_limits (Bare m age rested)) s s.now call shows.down, shows);
  damaged = λ damage is. (refl, refl);
  plans = same_cut m m (lines.Call call) (answers.Reply replies.Off) refl refl refl refl;
  unmountable = λ damage is takes low. record { answers = refl; damaged = is; stays = refl };
}

-- ---- plans

abbrev cut_armed : State → State
cut_armed s = record { now = s.now; cut_armed = true; fail_armed = s.fail_armed }

abbrev fail_armed : State → State
fail_armed s = record { now = s.now; cut_armed = s.cut_armed; fail_armed = true }

cut_at : (l : Limits) (s : State) (now : Now) (n how : ℕ) → EventAt l s now (lines.Cut n how) (answers.Reply replies.Done) (record { now = now; cut_armed = true; fail_armed = s.fail_armed })
cut_at l s (Up live) n how = (refl, refl)
cut_at l s (Down past may) n how = (refl, refl)

fail_at : (l : Limits) (s : State) (now : Now) (kind n : ℕ) → EventAt l s now (lines.Fail kind n) (answers.Reply replies.Done) (record { now = now; cut_armed = s.cut_armed; fail_armed = true })
fail_at l s (Up live) kind n = (refl, refl)
fail_at l s (Down past may) kind n = (refl, refl)

plan_age : (old_age new_age old_cuts old_faults cuts faults : ℕ) → new_age ≡ old_age → cuts ≤ old_cuts + 1 → faults ≤ old_faults + 1 → max new_age (max cuts faults) ≤ max (max old_age (max old_cuts old_faults)) (2 ^ 62) + line_age
plan_age old_age new_age old_cuts old_faults cuts faults a b c = omega arith

pub cut_goes : (old new : SessionState) (n how : ℕ) → Known (Mounted old) → (old.volume.tx.machine.cuts + 1 < 2 ^ 63 → GoesOn old.volume (lines.Cut n how) (answers.Reply replies.Done) new.volume) → new.volume.tx.machine ≡ with_most_cuts old.volume.tx.machine → limits_of new.volume ≡ limits_of old.volume → age_of (running_in new) ≡ age_of (running_in old) → new.device_age ≡ old.device_age → point_age (Mounted old) < 2 ^ 63 - 2 ^ 40 → PointGoes (Mounted old) (lines.Cut n how) (answers.Reply replies.Done) (Mounted new)
cut_goes old new n how known goes planned room same device young =
    let most = most_le (Mounted old) in
    let few : old.volume.tx.machine.cuts + 1 < 2 ^ 63 = omega (arith, known.1.most_cuts, most, young) in
    let it = event_of old.volume new.volume (lines.Cut n how) (answers.Reply replies.Done) (goes few) known.0 known.1 in
    let cuts : new.volume.tx.machine.most_cuts ≤ old.volume.tx.machine.most_cuts + 1 = omega (arith, ap (λ (x : Machine). x.most_cuts) planned, known.1.most_cuts) in
    let faults : new.volume.tx.machine.most_faults ≤ old.volume.tx.machine.most_faults + 1 = omega (arith, ap (λ (x : Machine). x.most_faults) planned) in
    record {
      known = (it.0, it.2);
      limits = room;
      age = plan_age (age_of (running_in old)) (age_of (running_in new)) old.volume.tx.machine.most_cuts old.volume.tx.machine.most_faults new.volume.tx.machine.most_cuts new.volume.tx.machine.most_faults same cuts faults;
      device = omega (arith, device);
      strikes = unstruck old.volume.tx.machine new.volume.tx.machine (answers.Reply replies.Done) refl refl (ap (λ (x : Machine). x.cuts) planned) (ap (λ (x : Machine). x.faults) planned);
      whole = λ before low. tt;
      each = λ s shows at whole low. event_of old.volume new.volume (lines.Cut n how) (answers.Reply replies.Done) (goes few) s shows;
      damaged = λ damage none. absurd none;
      plans = by_states old.volume.tx.machine new.volume.tx.machine (lines.Cut n how) (answers.Reply replies.Done) known.0.cut_armed it.0.cut_armed known.1.cuts it.2.cuts (event_arms (limits_of old.volume) known.0 known.0.now (lines.Cut n how) (answers.Reply replies.Done) it.0 it.1);
      unmountable = λ damage none takes low. absurd none;
    }

pub fail_goes : (old new : SessionState) (kind n : ℕ) → Known (Mounted old) → (old.volume.tx.machine.faults + 1 < 2 ^ 63 → GoesOn old.volume (lines.Fail kind n) (answers.Reply replies.Done) new.volume) → new.volume.tx.machine ≡ with_most_faults old.volume.tx.machine new.volume.tx.machine.most_faults → new.volume.tx.machine.most_faults ≤ one_more old.volume.tx.machine.faults → limits_of new.volume ≡ limits_of old.volume → age_of (running_in new) ≡ age_of (running_in old) → new.device_age ≡ old.device_age → point_age (Mounted old) < 2 ^ 63 - 2 ^ 40 → PointGoes (Mounted old) (lines.Fail kind n) (answers.Reply replies.Done) (Mounted new)
fail_goes old new kind n known goes planned bound room same device young =
    let most = most_le (Mounted old) in
    let few : old.volume.tx.machine.faults + 1 < 2 ^ 63 = omega (arith, known.1.most_faults, most, young) in
    let it = event_of old.volume new.volume (lines.Fail kind n) (answers.Reply replies.Done) (goes few) known.0 known.1 in
    let cuts : new.volume.tx.machine.most_cuts ≤ old.volume.tx.machine.most_cuts + 1 = omega (arith, ap (λ (x : Machine). x.most_cuts) planned) in
    let faults : new.volume.tx.machine.most_faults ≤ old.volume.tx.machine.most_faults + 1 = omega (arith, bound, known.1.most_faults) in
    record {
      known = (it.0, it.2);
      limits = room;
      age = plan_age (age_of (running_in old)) (age_of (running_in new)) old.volume.tx.machine.most_cuts old.volume.tx.machine.most_faults new.volume.tx.machine.most_cuts new.volume.tx.machine.most_faults same cuts faults;
      device = omega (arith, device);
      strikes = unstruck old.volume.tx.machine new.volume.tx.machine (answers.Reply replies.Done) refl refl (ap (λ (x : Machine). x.cuts) planned) (ap (λ (x : Machine). x.faults) planned);
      whole = λ before low. tt;
      each = λ s shows at whole low. event_of old.volume new.volume (lines.Fail kind n) (answers.Reply replies.Done) (goes few) s shows;
      damaged = λ damage none. absurd none;
      plans = by_states old.volume.tx.machine new.volume.tx.machine (lines.Fail kind n) (answers.Reply replies.Done) known.0.cut_armed it.0.cut_armed known.1.cuts it.2.cuts (event_arms (limits_of old.volume) known.0 known.0.now (lines.Fail kind n) (answers.Reply replies.Done) it.0 it.1);
      unmountable = λ damage none takes low. absurd none;
    }

-- the bounds of the counts change alone, and the device stores what it stored
restored : (m new : Machine) (s t : State) → Stores m s → new.stable ≡ m.stable → limits_in new ≡ limits_in m → t.now ≡ s.now → IsDown s.now → AreArmed new t → ShowsBare new t
restored m new s t st stable room now down armed =
    let D : Now → Type 0 = λ n. IsDown n in
    let A : Now → Type 0 = λ n. StandsAt n st.past st.k in
    let L : Limits → Type 0 = λ l. IsSaved l m.stable (tree_at st.past st.k) st.k in
    let O : Objects → Type 0 = λ o. IsSaved (limits_in new) o (tree_at st.past st.k) st.k in
    record {
      down = subst D (sym now) down;
      stores = record { past = st.past; k = st.k; stands = subst A (sym now) st.stands; saved = subst O (sym stable) (subst L (sym room) st.saved); armed = armed };
    }

armed_cut : (m new : Machine) (s : State) → AreArmed m s → new ≡ with_most_cuts m → m.most_cuts < 2 ^ 63 - 2 ^ 40 → AreArmed new (cut_armed s)
armed_cut m new s armed planned young =
    let most = ap (λ (x : Machine). x.most_cuts) planned in
    let others = ap (λ (x : Machine). x.most_faults) planned in
    let cuts = ap (λ (x : Machine). x.cuts) planned in
    let faults = ap (λ (x : Machine). x.faults) planned in
    let few : m.cuts + 1 < 2 ^ 63 = omega (arith, armed.most_cuts, young) in
    record {
      cuts = omega (arith, most, cuts);
      faults = omega (arith, others, faults, armed.faults);
      most_cuts = omega (arith, most, cuts, few);
      most_faults = omega (arith, others, faults, armed.most_faults);
      few_cuts = omega (arith, most, few);
      few_faults = omega (arith, others, armed.few_faults);
    }

armed_fail : (m new : Machine) (s : State) → AreArmed m s → new ≡ with_most_faults m new.most_faults → m.faults ≤ new.most_faults → new.most_faults ≤ one_more m.faults → m.most_faults < 2 ^ 63 - 2 ^ 40 → AreArmed new (fail_armed s)
armed_fail m new s armed planned least bound young =
    let others = ap (λ (x : Machine). x.most_cuts) planned in
    let cuts = ap (λ (x : Machine). x.cuts) planned in
    let faults = ap (λ (x : Machine). x.faults) planned in
    let few : m.faults + 1 < 2 ^ 63 = omega (arith, armed.most_faults, young) in
    record {
      cuts = omega (arith, others, cuts, armed.cuts);
      faults = omega (arith, bound, faults);
      most_cuts = omega (arith, others, cuts, armed.most_cuts);
      most_faults = omega (arith, least, faults);
      few_cuts = omega (arith, others, armed.few_cuts);
      few_faults = omega (arith, bound, few);
    }

pub bare_cut : (m new : Machine) (age age_now : ℕ) (rested now : Option Rested) (n how : ℕ) → Known (Bare m age rested) → new ≡ with_most_cuts m → age_now ≡ age → now ≡ rested → point_age (Bare m age rested) < 2 ^ 63 - 2 ^ 40 → PointGoes (Bare m age rested) (lines.Cut n how) (answers.Reply replies.Done) (Bare new age_now now)
bare_cut m new age age_now rested now n how known planned same stays young =
    let most = ap (λ (x : Machine). x.most_cuts) planned in
    let others = ap (λ (x : Machine). x.most_faults) planned in
    let cuts = ap (λ (x : Machine). x.cuts) planned in
    let faults = ap (λ (x : Machine). x.faults) planned in
    let low : m.most_cuts < 2 ^ 63 - 2 ^ 40 = omega (arith, young) in
    record {
      known = (cut_armed known.0, armed_cut m new known.0 known.1 planned low);
      limits = ap limits_in planned;
      age = omega (arith, most, others, known.1.most_cuts);
      device = omega (arith, same);
      strikes = unstruck m new (answers.Reply replies.Done) refl refl cuts faults;
      whole = λ before below. subst whole_in (sym stays) before;
      each = λ s shows at whole below. (
        cut_armed s,
        cut_at (point_limits (Bare m age rested)) s s.now n how,
        restored m new s (cut_armed s) shows.stores (ap (λ (x : Machine). x.stable) planned) (ap limits_in planned) refl shows.down (armed_cut m new s shows.stores.armed planned low),
      );
      damaged = λ damage is. (refl, stays);
      plans = by_states m new (lines.Cut n how) (answers.Reply replies.Done) known.0.cut_armed true known.1.cuts (armed_cut m new known.0 known.1 planned low).cuts refl;
      unmountable = λ damage is takes below. record { answers = refl; damaged = damage_still m new damage (ap (λ (x : Machine). x.stable) planned) (ap limits_in planned) is; stays = ap (λ (x : Machine). x.stable) planned };
    }

pub bare_fail : (m new : Machine) (age age_now : ℕ) (rested now : Option Rested) (kind n : ℕ) → Known (Bare m age rested) → new ≡ with_most_faults m new.most_faults → m.faults ≤ new.most_faults → new.most_faults ≤ one_more m.faults → age_now ≡ age → now ≡ rested → point_age (Bare m age rested) < 2 ^ 63 - 2 ^ 40 → PointGoes (Bare m age rested) (lines.Fail kind n) (answers.Reply replies.Done) (Bare new age_now now)
bare_fail m new age age_now rested now kind n known planned least bound same stays young =
    let others = ap (λ (x : Machine). x.most_cuts) planned in
    let cuts = ap (λ (x : Machine). x.cuts) planned in
    let faults = ap (λ (x : Machine). x.faults) planned in
    let low : m.most_faults < 2 ^ 63 - 2 ^ 40 = omega (arith, young) in
    record {
      known = (fail_armed known.0, armed_fail m new known.0 known.1 planned least bound low);
      limits = ap limits_in planned;
      age = omega (arith, bound, others, known.1.most_faults);
      device = omega (arith, same);
      strikes = unstruck m new (answers.Reply replies.Done) refl refl cuts faults;
      whole = λ before below. subst whole_in (sym stays) before;
      each = λ s shows at whole below. (
        fail_armed s,
        fail_at (point_limits (Bare m age rested)) s s.now kind n,
        restored m new s (fail_armed s) shows.stores (ap (λ (x : Machine). x.stable) planned) (ap limits_in planned) refl shows.down (armed_fail m new s shows.stores.armed planned least bound low),
      );
      damaged = λ damage is. (refl, stays);
      plans = same_cut m new (lines.Fail kind n) (answers.Reply replies.Done) refl refl cuts others;
      unmountable = λ damage is takes below. record { answers = refl; damaged = damage_still m new damage (ap (λ (x : Machine). x.stable) planned) (ap limits_in planned) is; stays = ap (λ (x : Machine). x.stable) planned };
    }

-- ---- a format

root_whole : AllNamed root_alone
root_whole n node there =
    let r = root_is_tree.numbers n node there in
    let one : 1 ≡ n = omega (arith, r.0, r.1) in
    let P : ℕ → Type 0 = λ m. number_at root_alone [] ≡ Some m in
    ([], subst P one root_is_tree.root)

abbrev first_past : Past
first_past = record { count = 0; trees = root_alone ∷ [] }

abbrev live_of : Tree → Live
live_of t = record { past = record { count = 0; trees = t ∷ [] }; mark = 0; world = record { tree = t; desk = empty_desk }; since = nothing_since }

room_of : (keys pages : ℕ) → 3 ≤ keys → has_room (record { keys = keys; pages = pages }) root_alone ≡ true
room_of keys pages h =
    let few : nat_le 3 keys ≡ true = grind (arith, nat_tests) in
    let none : nat_le 0 pages ≡ true = grind (arith, nat_tests) in
    λ i. few i && none i

-- a new file system is the tree of a root alone
pub first_saved : (m : Machine) → IsNew m → 3 ≤ m.room_keys → IsSaved (limits_in m) m.stable root_alone 0
first_saved m is room =
    let saved : IsSaved (limits_in m) first_objects root_alone 0 = record {
      tree = root_is_tree;
      kept = root_alone;
      is_kept = kept_all root_alone root_is_tree;
      kept_tree = root_is_tree;
      shows = first_shows;
      next = omega arith;
      count = omega arith;
      room = room_of m.room_keys m.room_pages room;
    } in
    let S : Objects → Type 0 = λ o. IsSaved (limits_in m) o root_alone 0 in
    subst S (sym is.stable) saved

-- a session on a new file system shows where a life begins
pub begins : (m : Machine) (new : SessionState) → IsNew m → 3 ≤ m.room_keys → Mounts m new.volume → new.volume.tx.machine ≡ begun (record m { stable = new.volume.tx.machine.stable }) 0 → ShowsState new.volume newborn × (limits_of new.volume ≡ limits_in m)
begins m new is room mounts machine =
    let got = mounts.each first_past 0 (first_saved m is room) in
    let Q : Tree → Type 0 = λ t. ShowsLive new.volume (live_of t) in
    let live = subst Q (named_whole root_alone root_whole) got.1 in
    let cuts = ap (λ (x : Machine). x.cuts) machine in
    let faults = ap (λ (x : Machine). x.faults) machine in
    let most_cuts = ap (λ (x : Machine). x.most_cuts) machine in
    let most_faults = ap (λ (x : Machine). x.most_faults) machine in (
      record {
        now = live;
        cuts = omega (arith, most_cuts, cuts, is.cuts);
        faults = omega (arith, most_faults, faults, is.faults);
        most_cuts = omega (arith, cuts, most_cuts, is.cuts);
        most_faults = omega (arith, faults, most_faults, is.faults);
        few_cuts = omega (arith, most_cuts, is.cuts, is.few_cuts);
        few_faults = omega (arith, most_faults, is.faults, is.few_faults);
      },
      limits_now new.volume (Up (live_of root_alone)) live ∙ ap limits_in machine,
    )
