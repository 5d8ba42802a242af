-- Mounts, as events of a life.
use Rattle.std.proofs.Common.{Option, None, ◌≡◌, ◌<◌, ◌≤◌, ◌+◌, ◌-◌, ◌^◌, inl, ◌∙◌, ℕ, max, Bool, true, false, [], ◌∷◌, Some, refl, sym, ap, subst, arith, nat_le}
use Rattle.std.specs.Prelude.{IsTrue, ◌&&◌}
use Rattle.std.proofs.lemmas.Bool.Decides.{nat_tests}
use Rattle.kv_base.specs.Counts.{one_more}
use Rattle.kv_device.specs.Objects.{Objects}
use Rattle.kv_device.specs.Machine.{Machine, down, restarted, begun, with_most_cuts, with_most_faults}
use Rattle.kv_device.specs.Calls.{Ages}
use Rattle.kfs_path.specs.declared.call.Call.{Call}
use Rattle.kfs_path.specs.declared.call.Cause.{Cause}
use Rattle.kfs_path.specs.declared.call.Cause.TheVariants as causes
use Rattle.kfs_path.specs.declared.call.Reply.{Reply}
use Rattle.kfs_path.specs.declared.call.Reply.TheVariants as replies
use Rattle.kfs_model.specs.declared.Line.TheVariants as lines
use Rattle.kfs_model.specs.declared.Answer.{Answer}
use Rattle.kfs_model.specs.declared.Answer.TheVariants as answers
use Rattle.kfs_model.specs.Desk.{empty_desk}
use Rattle.kfs_model.specs.Tree.{Tree, Limits, root_alone, number_at, has_room}
use Rattle.kfs_model.specs.Life.{State, Live, Now, Up, Down, Past, tree_at, up_at, with_now, disarmed, is_armed, AnyOf, Event, EventAt, newborn, nothing_since}
use Rattle.kfs_shows.specs.Named.{AllNamed}
use Rattle.kfs_shows.proofs.Fresh.{root_is_tree, first_shows}
use Rattle.kfs_shows.proofs.AllNamed.{named_whole}
use Rattle.kfs_tx.specs.Tx.{SameBounds, age_of, Aged}
use Rattle.kfs_core.specs.declared.fault.HostFault.{HostFault}
use Rattle.kfs_core.specs.declared.fault.HostFault.TheVariants.{Damaged, Cut, Eio, NoMem}
use Rattle.kfs_core.specs.Clearing.{Keeps}
use Rattle.kfs_core.proofs.Cleared.{kept_all}
use Rattle.kfs_posix.proofs.Mounting.{saved_still}
use Rattle.kfs_core.specs.Starting.{NotMounted, HostCause, first_objects}
use Rattle.kfs_posix.specs.Answering.{CountsFaults}
use Rattle.kfs_posix.specs.Volume.{Volume, SessionState, limits_of, running_in}
use Rattle.kfs_posix.specs.Showing.{ShowsLive, ShowsNow, ShowsState, IsSaved, GoesOn, one_if}
use Rattle.kfs_posix.specs.Mounting.{limits_in, Mounts}
use Rattle.kfs_runner.specs.Causes.{answer_of_host}
use Rattle.kfs_runner.specs.Numbers.{line_age}
use Rattle.kfs_runner.specs.Refusals.{Rested, damaged_in, whole_in, TellsDamage}
use Rattle.kv_base.specs.declared.damage.Damage.{Damage}
use Rattle.kv_device.specs.Objects.{IsHeld}
use Rattle.kfs_damages.specs.Damages.{IsTreeDamage, IsClear}
use Rattle.kfs_damages.proofs.One.{one_damage, damaged_is_not_clear}
use Rattle.kfs_judge.specs.Judging.{heard, room_in}
use Rattle.kssd_image.proofs.OneDamage.{damage_one}
use Rattle.kfs_runner.proofs.Undamaged.{undamaged, clear_stored}
use Rattle.kfs_runner.proofs.Planning.{same_cut, cut_came}
use Rattle.kfs_runner.proofs.PointLaws.{point_stores, known_room, known_armed, limits_now, most_le, unstruck, low_counts, damage_still}
use Rattle.kfs_runner.specs.Stores.{WakeCause, NotWoken, IsOutside}
use Rattle.kfs_runner.specs.Strikes.{strikes_of, struck, is_cut, is_failure, PlansCut}
use Rattle.kfs_runner.specs.MountPoints.{MountState, Mounted, Bare, AreArmed, StandsAt, Stores, IsDown, ShowsBare, Known, KeptBy, IsLow, IsPointWhole, point_rested, tree_damage, shows_point, point_limits, point_machine, point_age, device_age, most_of, PointGoes}

-- ---- a mount

mounts_at : (l : Limits) (s : State) (now : Now) (past : Past) (k n : ℕ) → StandsAt now past k → n ≡ k → EventAt l s now lines.Mount (answers.Mounted n) (with_now s (Up (up_at past k)))
mounts_at l s (Up live) past k n stands is = (is ∙ stands.1, λ i. with_now s (Up (up_at (stands.0 i) (sym is i))))
mounts_at l s (Down old may) past k n stands is =
    let P : ℕ → Type 0 = λ m. AnyOf may m in
    (subst P (sym is) stands.1, λ i. with_now s (Up (up_at (stands.0 i) (sym is i))))

-- a session shows the state that it goes on from
shows_up : (m : Machine) (now : Objects) (s : State) (b : Volume) (live : Live) → AreArmed m s → ShowsLive b live → b.tx.machine ≡ begun (record (restarted m) { stable = now }) 0 → ShowsState b (with_now s (Up live))
shows_up m now s b live armed shows is =
    let Cuts : Machine → Type 0 = λ x. x.most_cuts ≡ x.cuts + one_if s.cut_armed in
    let Faults : Machine → Type 0 = λ x. x.most_faults ≤ x.faults + one_if s.fail_armed in
    let MostCuts : Machine → Type 0 = λ x. x.cuts ≤ x.most_cuts in
    let MostFaults : Machine → Type 0 = λ x. x.faults ≤ x.most_faults in
    let FewCuts : Machine → Type 0 = λ x. x.most_cuts < 2 ^ 63 in
    let FewFaults : Machine → Type 0 = λ x. x.most_faults < 2 ^ 63 in
    record {
      now = shows;
      cuts = subst Cuts (sym is) armed.cuts;
      faults = subst Faults (sym is) armed.faults;
      most_cuts = subst MostCuts (sym is) armed.most_cuts;
      most_faults = subst MostFaults (sym is) armed.most_faults;
      few_cuts = subst FewCuts (sym is) armed.few_cuts;
      few_faults = subst FewFaults (sym is) armed.few_faults;
    }

mount_age : (device changes next cuts faults old : ℕ) → device ≤ 2 ^ 62 + line_age → changes < 2 ^ 62 → next < 2 ^ 62 → max cuts faults ≤ old → max (max device (max changes next)) (max cuts faults) ≤ max old (2 ^ 62) + line_age
mount_age device changes next cuts faults old a b c d = omega arith

-- a life of one tree
abbrev pub past_of : Tree → ℕ → Past
past_of t k = record { count = k; trees = t ∷ [] }

pub newest : (t : Tree) (k : ℕ) → tree_at (past_of t k) k ≡ t
newest t k = let none : k - k ≡ 0 = omega arith in rw none refl

-- where nothing is damaged, what is known goes on
known_up : (point : MountState) (m now : Machine) (volume : Volume) → Known point → m ≡ restarted (point_machine point) → IsHeld m.stable → IsClear (room_in m) (heard m.stable) → Mounts m volume → volume.tx.machine ≡ begun (record (restarted (point_machine point)) { stable = volume.tx.machine.stable }) 0 → (s : State) × ShowsState volume s
known_up point m now volume known up held clear mounts begins =
    let found = clear_stored m held clear in
    let past = past_of found.0 found.1 in
    let T : Tree → Type 0 = λ t. IsSaved (limits_in m) m.stable t found.1 in
    let got = mounts.each past found.1 (subst T (sym (newest found.0 found.1)) found.2) in
    let armed = known_armed point known in
    (with_now armed.0 (Up (up_at past found.1)), shows_up (point_machine point) volume.tx.machine.stable armed.0 volume (up_at past found.1) armed.1 got.1 begins)

-- the objects of a device without a session have the damage
stored_damage : (point : MountState) (damage : Damage) → tree_damage point damage → IsTreeDamage (room_in (point_machine point)) (heard (point_machine point).stable) damage
stored_damage (Mounted session) damage is = absurd is
stored_damage (Bare m age rested) damage is = is

-- a mount goes on from what the device stores
pub mount_goes : (point : MountState) (m : Machine) (new : SessionState) (n device : ℕ) → Known point → m ≡ restarted (point_machine point) → IsHeld m.stable → IsClear (room_in m) (heard m.stable) → Mounts m new.volume → new.volume.tx.machine ≡ begun (record m { stable = new.volume.tx.machine.stable }) 0 → new.volume.tx.changes < 2 ^ 62 → new.volume.tx.next < 2 ^ 62 → device ≤ device_age point + 2 ^ 20 → device ≤ 2 ^ 62 + 2 ^ 21 → Ages device new.device_age (2 ^ 38) → n ≡ new.volume.tx.changes → ((damage : Damage) → damaged_in (point_rested point) damage → ⊥) → PointGoes point lines.Mount (answers.Mounted n) (Mounted new)
mount_goes point m new n device known up held clear mounts begins changes next woken low aged is none =
    let P : Machine → Type 0 = λ x. Mounts x new.volume in
    let here = subst P up mounts in
    let now = new.volume.tx.machine.stable in
    let machine : new.volume.tx.machine ≡ begun (record (restarted (point_machine point)) { stable = now }) 0 = begins ∙ ap (λ (x : Machine). begun (record x { stable = now }) 0) up in
    let cuts : new.volume.tx.machine.most_cuts ≡ (point_machine point).most_cuts = ap (λ (x : Machine). x.most_cuts) machine in
    let faults : new.volume.tx.machine.most_faults ≡ (point_machine point).most_faults = ap (λ (x : Machine). x.most_faults) machine in
    let most = most_le point in
    let most_new : max new.volume.tx.machine.most_cuts new.volume.tx.machine.most_faults ≤ point_age point = omega (arith, cuts, faults, most) in
    let aged_by : new.device_age ≤ device_age point + line_age = omega (arith, aged.bounded, woken) in
    let young : new.device_age ≤ 2 ^ 62 + line_age = omega (arith, aged.bounded, low) in
    let shown = known_up point m m new.volume known up held clear mounts machine in
    record {
      known = shown;
      limits = limits_now new.volume shown.0.now shown.1.now ∙ ap limits_in machine ∙ sym (known_room point known);
      age = mount_age new.device_age new.volume.tx.changes new.volume.tx.next new.volume.tx.machine.most_cuts new.volume.tx.machine.most_faults (point_age point) young changes next most_new;
      device = aged_by;
      strikes = unstruck (point_machine point) new.volume.tx.machine (answers.Mounted n) refl refl (ap (λ (x : Machine). x.cuts) machine) (ap (λ (x : Machine). x.faults) machine);
      whole = λ before below. tt;
      each = λ s shows at whole below.
          let st = point_stores point s shows in
          let got = here.each st.past st.k st.saved in (
            with_now s (Up (up_at st.past st.k)),
            mounts_at (point_limits point) s s.now st.past st.k n st.stands (is ∙ got.0),
            shows_up (point_machine point) now s new.volume (up_at st.past st.k) st.armed got.1 machine,
          );
      damaged = λ damage is. absurd (none damage is);
      plans = same_cut (point_machine point) new.volume.tx.machine lines.Mount (answers.Mounted n) refl refl (ap (λ (x : Machine). x.cuts) machine) cuts;
      unmountable = λ damage is takes below.
          let C : Machine → Type 0 = λ x. IsClear (room_in x) (heard x.stable) in
          absurd (damaged_is_not_clear (room_in (point_machine point)) (heard (point_machine point).stable) damage (stored_damage point damage is) (subst C up clear));
    }

-- ---- a mount that fails

abbrev fallen_now : Now → Now
fallen_now (Up live) = Down live.past (live.mark ∷ [])
fallen_now (Down past may) = Down past may

is_down : (now : Now) → IsDown (fallen_now now)
is_down (Up live) = tt
is_down (Down past may) = tt

still_stands : (now : Now) (past : Past) (k : ℕ) → StandsAt now past k → StandsAt (fallen_now now) past k
still_stands (Up live) past k stands = (stands.0, inl stands.1)
still_stands (Down old may) past k stands = stands

fails_at : (l : Limits) (s : State) (now : Now) (cause : Cause) → IsTrue (is_armed s cause) → EventAt l s now lines.Mount (answers.Reply (replies.Down cause)) (disarmed s cause (fallen_now now))
fails_at l s (Up live) cause armed = (cause, refl, armed, refl)
fails_at l s (Down past may) cause armed = (cause, refl, armed, refl)

rose_by : (old new most : ℕ) (armed : Bool) → most ≤ old + one_if armed → old ≤ most → most < 2 ^ 63 → new ≤ most → new ≡ one_more old → IsTrue armed × (most ≤ new)
rose_by old new most armed bound low few le least = by armed bound
  where
    more : old < new
    more = omega arith

    by : (armed : Bool) → most ≤ old + one_if armed → IsTrue armed × (most ≤ new)
    by true bound = (refl, omega arith)
    by false bound = absurd (omega arith)

-- a device that a mount left shows that the life is down
bare_shows : (m new : Machine) (s t : State) → Stores m s → Keeps m.stable new.stable → limits_in new ≡ limits_in m → t.now ≡ fallen_now s.now → AreArmed new t → ShowsBare new t
bare_shows m new s t st keeps room now armed =
    let D : Now → Type 0 = λ n. IsDown n in
    let A : Now → Type 0 = λ n. StandsAt n st.past st.k in
    let L : Limits → Type 0 = λ l. IsSaved l m.stable (tree_at st.past st.k) st.k in
    record {
      down = subst D (sym now) (is_down s.now);
      stores = record {
        past = st.past;
        k = st.k;
        stands = subst A (sym now) (still_stands s.now st.past st.k st.stands);
        saved = saved_still (limits_in new) m.stable new.stable (tree_at st.past st.k) st.k keeps (subst L (sym room) st.saved);
        armed = armed;
      };
    }

-- which count rose, by the fault; none does by a damage
abbrev RoseBy : Machine → HostFault → Machine → Type 0
RoseBy old (Damaged damage) new = (new.cuts ≡ old.cuts) × (new.faults ≡ old.faults)
RoseBy old Cut new = HostCause old Cut new
RoseBy old Eio new = HostCause old Eio new
RoseBy old NoMem new = HostCause old NoMem new

-- a device fell: the count of the cause rose, and it stores what it stored, without some nameless nodes
record Fell (old : Machine) (fault : HostFault) (new : Machine) : Type 0 where
  cause : RoseBy old fault new
  keeps : Keeps old.stable new.stable
  bounds : SameBounds old new

-- the state behind a mount that failed
abbrev after_fault : State → HostFault → State
after_fault s (Damaged damage) = with_now s (fallen_now s.now)
after_fault s Cut = disarmed s causes.Cut (fallen_now s.now)
after_fault s Eio = disarmed s causes.Eio (fallen_now s.now)
after_fault s NoMem = disarmed s causes.NoMem (fallen_now s.now)

fell_armed : (m new : Machine) (s : State) (fault : HostFault) → AreArmed m s → Fell (restarted m) fault new → AreArmed new (after_fault s fault)
fell_armed m new s (Damaged damage) armed not =
    let cuts = not.bounds.most_cuts in
    let faults = not.bounds.most_faults in
    record {
      cuts = omega (arith, not.cause.0, cuts, armed.cuts);
      faults = omega (arith, not.cause.1, faults, armed.faults);
      most_cuts = omega (arith, not.cause.0, cuts, armed.most_cuts);
      most_faults = omega (arith, not.cause.1, faults, armed.most_faults);
      few_cuts = omega (arith, cuts, armed.few_cuts);
      few_faults = omega (arith, faults, armed.few_faults);
    }
fell_armed m new s Cut armed not =
    let bound : m.most_cuts ≤ m.cuts + one_if s.cut_armed = omega (arith, armed.cuts) in
    let r = rose_by m.cuts new.cuts m.most_cuts s.cut_armed bound armed.most_cuts armed.few_cuts not.cause.0.0 not.cause.0.1 in
    let most = not.bounds.most_cuts in
    let others = not.bounds.most_faults in
    record {
      cuts = omega (arith, r.1, most);
      faults = omega (arith, not.cause.1, others, armed.faults);
      most_cuts = omega (arith, not.cause.0.0, most);
      most_faults = omega (arith, not.cause.1, others, armed.most_faults);
      few_cuts = omega (arith, most, armed.few_cuts);
      few_faults = omega (arith, others, armed.few_faults);
    }
fell_armed m new s Eio armed not =
    let r = rose_by m.faults new.faults m.most_faults s.fail_armed armed.faults armed.most_faults armed.few_faults not.cause.0.0 not.cause.0.1 in
    let most = not.bounds.most_faults in
    let others = not.bounds.most_cuts in
    record {
      cuts = omega (arith, not.cause.1, others, armed.cuts);
      faults = omega (arith, r.1, most);
      most_cuts = omega (arith, not.cause.1, others, armed.most_cuts);
      most_faults = omega (arith, not.cause.0.0, most);
      few_cuts = omega (arith, others, armed.few_cuts);
      few_faults = omega (arith, most, armed.few_faults);
    }
fell_armed m new s NoMem armed not =
    let cuts = not.bounds.most_cuts in
    let faults = not.bounds.most_faults in
    record {
      cuts = omega (arith, not.cause.0, cuts, armed.cuts);
      faults = omega (arith, not.cause.1, faults, armed.faults);
      most_cuts = omega (arith, not.cause.0, cuts, armed.most_cuts);
      most_faults = omega (arith, not.cause.1, faults, armed.most_faults);
      few_cuts = omega (arith, cuts, armed.few_cuts);
      few_faults = omega (arith, faults, armed.few_faults);
    }

-- a mount that fails by an outside cause is an event
fell_at : (l : Limits) (m new : Machine) (s : State) (fault : HostFault) → AreArmed m s → Fell (restarted m) fault new → IsOutside fault → Event l s lines.Mount (answer_of_host fault) (after_fault s fault)
fell_at l m new s (Damaged damage) armed not out = absurd out
fell_at l m new s Cut armed not out =
    let bound : m.most_cuts ≤ m.cuts + one_if s.cut_armed = omega (arith, armed.cuts) in
    let r = rose_by m.cuts new.cuts m.most_cuts s.cut_armed bound armed.most_cuts armed.few_cuts not.cause.0.0 not.cause.0.1 in
    fails_at l s s.now causes.Cut r.0
fell_at l m new s Eio armed not out =
    let r = rose_by m.faults new.faults m.most_faults s.fail_armed armed.faults armed.most_faults armed.few_faults not.cause.0.0 not.cause.0.1 in
    fails_at l s s.now causes.Eio r.0
fell_at l m new s NoMem armed not out = fails_at l s s.now causes.NoMem refl

fell_now : (s : State) (fault : HostFault) → (after_fault s fault).now ≡ fallen_now s.now
fell_now s (Damaged damage) = refl
fell_now s Cut = refl
fell_now s Eio = refl
fell_now s NoMem = refl

-- a device without a session stores the same however it is down
fell_mounting : (old new : Machine) (fault : HostFault) → NotMounted old fault new → Fell old fault (down new)
fell_mounting old new fault not = record { cause = by fault not.cause; keeps = not.keeps; bounds = record { most_cuts = not.bounds.most_cuts; most_faults = not.bounds.most_faults; room_keys = not.bounds.room_keys; room_pages = not.bounds.room_pages } }
  where
    by : (fault : HostFault) → HostCause old fault new → RoseBy old fault (down new)
    by (Damaged damage) c = (ap (λ (x : Machine). x.cuts) c.1, ap (λ (x : Machine). x.faults) c.1)
    by Cut c = c
    by Eio c = c
    by NoMem c = c

keeps_same : (m : Objects) → Keeps m m
keeps_same m = record { each = λ t k tree low shows. (t, kept_all t tree, tree, shows) }

-- so does one that could not be woken
fell_waking : (rested : Option Rested) (old new : Machine) (fault : HostFault) → NotWoken rested old fault new → Fell (restarted old) fault new
fell_waking rested old new fault not =
    let K : Objects → Type 0 = λ o. Keeps old.stable o in
    record {
      cause = by fault not.cause;
      keeps = subst K (sym (ap (λ (x : Machine). x.stable) not.same)) (keeps_same old.stable);
      bounds = record {
        most_cuts = ap (λ (x : Machine). x.most_cuts) not.same;
        most_faults = ap (λ (x : Machine). x.most_faults) not.same;
        room_keys = ap (λ (x : Machine). x.room_keys) not.same;
        room_pages = ap (λ (x : Machine). x.room_pages) not.same;
      };
    }
  where
    by : (fault : HostFault) → WakeCause rested old fault new → RoseBy (restarted old) fault new
    by (Damaged damage) c = (c.1, c.2)
    by Cut c = c
    by Eio c = c
    by NoMem c = c

-- the answer tells the count that rose
struck_by_fault : (old new : Machine) (fault : HostFault) → old.cuts < 2 ^ 63 → old.faults < 2 ^ 63 → RoseBy old fault new → strikes_of new ≡ struck (strikes_of old) (answer_of_host fault)
struck_by_fault old new (Damaged damage) low_cuts low_faults c = unstruck old new (answers.Refused damage) refl refl c.0 c.1
struck_by_fault old new Cut low_cuts low_faults c =
    let cuts : new.cuts ≡ old.cuts + 1 = omega (arith, c.0.1, low_cuts) in
    let faults : new.faults ≡ old.faults + 0 = omega (arith, c.1) in
    λ i. record { cuts = cuts i; faults = faults i }
struck_by_fault old new Eio low_cuts low_faults c =
    let cuts : new.cuts ≡ old.cuts + 0 = omega (arith, c.1) in
    let faults : new.faults ≡ old.faults + 1 = omega (arith, c.0.1, low_faults) in
    λ i. record { cuts = cuts i; faults = faults i }
struck_by_fault old new NoMem low_cuts low_faults c =
    let cuts : new.cuts ≡ old.cuts + 0 = omega (arith, c.0) in
    let faults : new.faults ≡ old.faults + 0 = omega (arith, c.1) in
    λ i. record { cuts = cuts i; faults = faults i }

-- a cut that came isn't planned any more, and else the plan stays
plans_by_fault : (old new : Machine) (fault : HostFault) → old.cuts < 2 ^ 63 → RoseBy old fault new → new.most_cuts ≡ old.most_cuts → PlansCut old lines.Mount (answer_of_host fault) new
plans_by_fault old new (Damaged damage) low c most = same_cut old new lines.Mount (answers.Refused damage) refl refl c.0 most
plans_by_fault old new Cut low c most = cut_came old new low c.0 most
plans_by_fault old new Eio low c most = same_cut old new lines.Mount (answers.Reply (replies.Down causes.Eio)) refl refl c.1 most
plans_by_fault old new NoMem low c most = same_cut old new lines.Mount (answers.Reply (replies.Down causes.NoMem)) refl refl c.0 most

-- a mount that failed, and what it left
falls_to : (point : MountState) (new : Machine) (fault : HostFault) (age : ℕ) (rested : Option Rested) → Known point → Fell (restarted (point_machine point)) fault new → age ≤ device_age point + line_age
    → ((s : State) → shows_point point s → IsLow s → IsPointWhole point → device_age point < 2 ^ 62 → IsOutside fault)
    → (IsPointWhole point → device_age point < 2 ^ 62 → whole_in rested)
    → ((damage : Damage) → damaged_in (point_rested point) damage → TellsDamage damage (answer_of_host fault) × (rested ≡ point_rested point))
    → ((damage : Damage) → tree_damage point damage → IsPointWhole point → device_age point < 2 ^ 62 → TellsDamage damage (answer_of_host fault) × (new.stable ≡ (point_machine point).stable))
    → PointGoes point lines.Mount (answer_of_host fault) (Bare new age rested)
falls_to point new fault age rested known here aged outside whole_left damaged unmountable =
    let cuts = here.bounds.most_cuts in
    let faults = here.bounds.most_faults in
    let most = most_le point in
    let low = low_counts point known in
    let m = point_machine point in
    let armed = known_armed point known in
    let same : limits_in new ≡ limits_in m = λ i. record { keys = here.bounds.room_keys i; pages = here.bounds.room_pages i } in
    record {
      known = (after_fault armed.0 fault, fell_armed m new armed.0 fault armed.1 here);
      limits = same ∙ sym (known_room point known);
      age = omega (arith, cuts, faults, most);
      device = aged;
      strikes = struck_by_fault (restarted m) new fault low.0 low.1 here.cause;
      whole = whole_left;
      each = λ s shows at whole below.
          let st = point_stores point s shows in (
            after_fault s fault,
            fell_at (point_limits point) m new s fault st.armed here (outside s shows at whole below),
            bare_shows m new s (after_fault s fault) st here.keeps same (fell_now s fault) (fell_armed m new s fault st.armed here),
          );
      damaged = damaged;
      plans = plans_by_fault (restarted m) new fault low.0 here.cause cuts;
      unmountable = λ damage is takes below.
          let told = unmountable damage is takes below in
          record { answers = told.0; damaged = damage_still m new damage told.1 same (stored_damage point damage is); stays = told.1 };
    }

-- objects that show a tree with low numbers are not refused
not_refused : (point : MountState) (new : Machine) (fault : HostFault) → IsHeld (point_machine point).stable → NotMounted (restarted (point_machine point)) fault new → (s : State) → shows_point point s → IsLow s → IsOutside fault
not_refused point new (Damaged damage) held not s shows low =
    let st = point_stores point s shows in
    let n = low st.past st.k st.stands in
    absurd (undamaged (limits_in (point_machine point)) (point_machine point).stable (tree_at st.past st.k) st.k damage held st.saved n.0 n.1 not.cause.0)
not_refused point new Cut held not s shows low = tt
not_refused point new Eio held not s shows low = tt
not_refused point new NoMem held not s shows low = tt

-- damaged objects are refused by their damage
refused_by : (m new : Machine) (fault : HostFault) (damage : Damage) → IsTreeDamage (room_in m) (heard m.stable) damage → HostCause m fault new → TellsDamage damage (answer_of_host fault)
refused_by m new (Damaged told) damage is cause = one_damage (room_in m) (heard m.stable) told damage cause.0 is
refused_by m new Cut damage is cause = tt
refused_by m new Eio damage is cause = tt
refused_by m new NoMem damage is cause = tt

-- a mount that fails leaves what the device stores
pub mount_falls : (point : MountState) (m new store : Machine) (fault : HostFault) (answer : Answer) (age : ℕ) (rested : Option Rested) → Known point → m ≡ restarted (point_machine point) → IsHeld m.stable → NotMounted m fault new → store ≡ down new → age ≤ device_age point + line_age → whole_in rested → ((damage : Damage) → damaged_in (point_rested point) damage → ⊥) → answer ≡ answer_of_host fault → PointGoes point lines.Mount answer (Bare store age rested)
mount_falls point m new store fault answer age rested known up held not rests aged whole none is =
    let P : Machine → Type 0 = λ x. NotMounted x fault new in
    let H : Machine → Type 0 = λ x. IsHeld x.stable in
    let Q : Answer → Type 0 = λ a. PointGoes point lines.Mount a (Bare store age rested) in
    let R : Machine → Type 0 = λ x. Fell (restarted (point_machine point)) fault x in
    let here = subst P up not in
    let stored = subst H up held in
    subst Q (sym is) (falls_to point store fault age rested known (subst R (sym rests) (fell_mounting (restarted (point_machine point)) new fault here)) aged
    (λ s shows low w below. not_refused point new fault stored here s shows low) (λ w below. whole) (λ damage at. absurd (none damage at))
    (λ damage at w below.
    let stays = here.damaged damage (stored_damage point damage at) in
    (refused_by (restarted (point_machine point)) new fault damage (stored_damage point damage at) here.cause, ap (λ (x : Machine). x.stable) rests ∙ stays)))

-- ---- what a session leaves, and what it was before

pub kept_whole : (point : MountState) (old : Machine) (before : Option Rested) → KeptBy point old before → IsPointWhole point → whole_in before
kept_whole (Mounted session) old before kept whole = kept
kept_whole (Bare m age rested) old before kept whole = subst whole_in (sym kept.1) whole

pub kept_rested : (point : MountState) (old : Machine) (before : Option Rested) (damage : Damage) → KeptBy point old before → damaged_in (point_rested point) damage → before ≡ point_rested point
kept_rested (Mounted session) old before damage kept is = absurd is
kept_rested (Bare m age rested) old before damage kept is = kept.1

pub kept_none : (point : MountState) (old : Machine) (before : Option Rested) → KeptBy point old before → ((damage : Damage) → damaged_in before damage → ⊥) → (damage : Damage) → damaged_in (point_rested point) damage → ⊥
kept_none (Mounted session) old before kept none damage is = is
kept_none (Bare m age rested) old before kept none damage is = none damage (subst (λ r. damaged_in r damage) (sym kept.1) is)

one_of : (rested : Option Rested) (told damage : Damage) → damaged_in rested told → damaged_in rested damage → told ≡ damage
one_of (Some r) told damage a b = damage_one r.blocks r.image told damage a b
one_of None told damage a b = absurd a

tells : (rested : Option Rested) (old new : Machine) (fault : HostFault) (damage : Damage) → damaged_in rested damage → WakeCause rested old fault new → TellsDamage damage (answer_of_host fault)
tells rested old new (Damaged told) damage is cause = one_of rested told damage cause.0 is
tells rested old new Cut damage is cause = tt
tells rested old new Eio damage is cause = tt
tells rested old new NoMem damage is cause = tt

outside_tells : (fault : HostFault) (damage : Damage) → IsOutside fault → TellsDamage damage (answer_of_host fault)
outside_tells (Damaged told) damage out = absurd out
outside_tells Cut damage out = tt
outside_tells Eio damage out = tt
outside_tells NoMem damage out = tt

-- so does a device that can't be woken
pub wake_falls : (point : MountState) (old new : Machine) (fault : HostFault) (answer : Answer) (age_old age : ℕ) (before rested : Option Rested) → Known point → down old ≡ down (point_machine point) → NotWoken before old fault new → age_old ≤ device_age point → age ≤ device_age point + line_age → KeptBy point old before
    → (whole_in before → age_old < 2 ^ 62 → IsOutside fault) → (whole_in before → age_old < 2 ^ 62 → whole_in rested) → ((damage : Damage) → damaged_in before damage → rested ≡ before) → answer ≡ answer_of_host fault
    → PointGoes point lines.Mount answer (Bare new age rested)
wake_falls point old new fault answer age_old age before rested known rests not less aged kept outside whole stays is =
    let P : Machine → Type 0 = λ x. Fell x fault new in
    let Q : Answer → Type 0 = λ a. PointGoes point lines.Mount a (Bare new age rested) in
    subst Q (sym is) (falls_to point new fault age rested known (subst P (ap restarted rests) (fell_waking before old new fault not)) aged
    (λ s shows low w below. outside (kept_whole point old before kept w) (omega (arith, less, below)))
    (λ w below. whole (kept_whole point old before kept w) (omega (arith, less, below)))
    (λ damage at.
    let same = kept_rested point old before damage kept at in
    let here = subst (λ r. damaged_in r damage) (sym same) at in
    (tells before old new fault damage here not.cause, stays damage here ∙ same))
    (λ damage at w below. (
      outside_tells fault damage (outside (kept_whole point old before kept w) (omega (arith, less, below))),
      ap (λ (x : Machine). x.stable) not.same ∙ ap (λ (x : Machine). x.stable) rests,
    )))
