-- One change that was planned, as an event of a life.
use Rattle.std.proofs.Common.{◌≡◌, ℕ, ◌<◌, ◌≤◌, ◌+◌, ◌^◌, inl, inr, true, false, cond, Bool, refl, sym, ◌∙◌, ap, subst, arith, Some, None}
use Rattle.kv_device.specs.declared.fault.DeviceFault.{DeviceFault}
use Rattle.kv_device.specs.declared.fault.DeviceFault.TheVariants.{NoTx, Busy, TxFull, Full, BadSize, Off, Failed, Memory}
use Rattle.kv_device.specs.Machine.{Machine}
use Rattle.kv_device.specs.Objects.{Objects}
use Rattle.kfs_path.specs.declared.call.Call.{Call}
use Rattle.kfs_path.specs.declared.call.Cause.{Cause}
use Rattle.kfs_path.specs.declared.call.Reply.{Reply}
use Rattle.kfs_path.specs.declared.call.Reply.TheVariants as replies
use Rattle.kfs_model.specs.declared.Line.TheVariants as lines
use Rattle.kfs_model.specs.declared.Answer.TheVariants as answers
use Rattle.kfs_model.specs.Tree.{Tree, charge, chunks}
use Rattle.kfs_model.specs.Desk.{Desk, is_open}
use Rattle.kfs_model.specs.Step.{World, After, step}
use Rattle.kfs_model.specs.Change.{weight, is_boundary}
use Rattle.kfs_model.specs.Life.{Live, can_fail}
use Rattle.kfs_shows.specs.Sweeping.{ShowsWorld}
use Rattle.kfs_shows.proofs.Sweeping.{nameless_test}
use Rattle.kfs_tx.specs.Tx.{Tx, SameBounds, Caused, HasCause, Fallen, ChangeFault, seen, committed, counted, one_change, with_super, is_full}
use Rattle.kfs_tx.proofs.Falling.{change_falls}
use Rattle.kfs_file.specs.Contents.{FailsWithin, pending_of}
use Rattle.kfs_file.proofs.Failing.{cause_before}
use Rattle.kfs_core.proofs.Plans.{Plan}
use Rattle.kfs_posix.specs.Opens.{Opens, desk_of}
use Rattle.kfs_posix.specs.Holding.{Holds}
use Rattle.kfs_posix.specs.Volume.{Volume, limits_of, cause_of}
use Rattle.kfs_posix.specs.Showing.{ShowsLive, IsWhole, GoesOn}
use Rattle.kfs_posix.proofs.Changing.{IsPut, change_shown, sees, to_save}
use Rattle.kfs_posix.proofs.Going.{Fell, spare, spare_free, as_before, as_after, change_goes_at, fall_goes, Refuses}
use Rattle.kfs_posix.proofs.Calls.{room_for}
use Rattle.kfs_posix.proofs.Fault.{SameMachine}
use Rattle.kfs_core.specs.declared.fault.CoreFault.TheVariants.{Device}

-- the world that the objects show
pub world_shown : (b : Volume) (live : Live) → ShowsLive b live → ShowsWorld (seen b.tx) live.world
world_shown b live sh = record {
  tree = sh.tree;
  shows = sh.sees.tree;
  opened = λ k node there none. ap (λ (desk : Desk). is_open desk k) sh.desk ∙ sh.holds.kept k node there (nameless_test live.world.tree sh.tree k none);
}

-- what a change leaves of a tx's device
one_same : (r : Tx) (n next : ℕ) → SameMachine r.machine (one_change r n next).machine × SameBounds r.machine (one_change r n next).machine
one_same r n next = by (counted r n next) (is_full (r.since + 1) (r.weight + n)) refl refl refl (record { most_cuts = refl; most_faults = refl; room_keys = refl; room_pages = refl })
  where
    by : (s : Tx) (b : Bool) → s.machine.up ≡ r.machine.up → s.machine.cuts ≡ r.machine.cuts → s.machine.faults ≡ r.machine.faults → SameBounds r.machine s.machine → SameMachine r.machine (cond b (committed s) s).machine × SameBounds r.machine (cond b (committed s) s).machine
    by s true a b c d = (record { up = a; cuts = b; faults = c }, record { most_cuts = d.most_cuts; most_faults = d.most_faults; room_keys = d.room_keys; room_pages = d.room_pages })
    by s false a b c d = (record { up = a; cuts = b; faults = c }, d)

-- the same where only the pending changes differed before
pub changed_same : (old mid : Tx) → mid ≡ pending_of mid old → (n next : ℕ) → SameMachine old.machine (one_change mid n next).machine
changed_same old mid same n next =
    let h = (one_same mid n next).0 in
    record { up = h.up ∙ ap (λ (r : Tx). r.machine.up) same; cuts = h.cuts ∙ ap (λ (r : Tx). r.machine.cuts) same; faults = h.faults ∙ ap (λ (r : Tx). r.machine.faults) same }

pub changed_bounds : (old mid : Tx) → mid ≡ pending_of mid old → (n next : ℕ) → SameBounds old.machine (one_change mid n next).machine
changed_bounds old mid same n next =
    let h = (one_same mid n next).1 in
    record {
      most_cuts = h.most_cuts ∙ ap (λ (r : Tx). r.machine.most_cuts) same;
      most_faults = h.most_faults ∙ ap (λ (r : Tx). r.machine.most_faults) same;
      room_keys = h.room_keys ∙ ap (λ (r : Tx). r.machine.room_keys) same;
      room_pages = h.room_pages ∙ ap (λ (r : Tx). r.machine.room_pages) same;
    }

-- a cause after the objects are put is one from the beginning on
pub caused_from : (old mid : Tx) (fault : DeviceFault) (new : Machine) → mid ≡ pending_of mid old → Caused mid.machine fault new → Caused old.machine fault new
caused_from old mid fault new same h = cause_before old.machine mid.machine.pending fault new (subst (λ (r : Tx). Caused r.machine fault new) same h)

pub change_caused : (old mid : Tx) (n next : ℕ) (fault : DeviceFault) (new : Machine) → mid ≡ pending_of mid old → ChangeFault mid n next fault new → Caused old.machine fault new
change_caused old mid n next fault new same (inl h) = caused_from old mid fault new same h.1
change_caused old mid n next fault new same (inr h) = caused_from old mid fault new same h.1.1

pub fallen_from : (old mid : Tx) (fault : DeviceFault) (stands : Objects) (new : Machine) → mid ≡ pending_of mid old → HasCause mid.machine fault new → new.stable ≡ stands → SameBounds mid.machine new → Fallen old.machine fault stands new
fallen_from old mid fault stands new same cause is bounds = record {
  cause = by fault (subst (λ (r : Tx). HasCause r.machine fault new) same cause);
  stable = is;
  bounds = record {
    most_cuts = bounds.most_cuts ∙ ap (λ (r : Tx). r.machine.most_cuts) same;
    most_faults = bounds.most_faults ∙ ap (λ (r : Tx). r.machine.most_faults) same;
    room_keys = bounds.room_keys ∙ ap (λ (r : Tx). r.machine.room_keys) same;
    room_pages = bounds.room_pages ∙ ap (λ (r : Tx). r.machine.room_pages) same;
  };
}
  where
    by : (fault : DeviceFault) → HasCause (pending_of mid old).machine fault new → HasCause old.machine fault new
    by NoTx h = h
    by Busy h = h
    by TxFull h = h
    by (Full k p) h = h
    by BadSize h = h
    by Off h = h
    by Failed h = h
    by Memory h = h

-- the objects of a planned change are put
plan_put : (old : Volume) (live : Live) → ShowsLive old live → (mid : Tx) (desk : Desk) (call : Call) (n c p : ℕ) → old.tx.changes + 1 < 2 ^ 63 → (plan : Plan old.tx mid (limits_of old) live.world desk call n c p) → IsPut old mid plan.world.tree n mid.next
plan_put old live sh mid desk call n c p count plan = record {
  ready = plan.ready;
  tree = plan.shows.tree;
  shows = plan.shows.shows;
  low = let e = plan.next in let h = sh.low in omega arith;
  few_changes = let e = plan.numbers.changes in omega arith;
  next_is = plan.numbers.next ∙ sh.next ∙ sym plan.next;
  changes = plan.numbers.changes;
  since = plan.numbers.since;
  weight = plan.numbers.weight;
  stable = plan.numbers.stable;
  bounds = plan.numbers.bounds;
  few = let a = plan.few in let f = sh.light.few in omega arith;
  room = plan.room;
}

-- a fault in the boundary of a change that put what it should
module _ (old new : Volume) (live : Live) (sh : ShowsLive old live) (mid : Tx) (same : mid ≡ pending_of mid old.tx) (t : Tree) (n next c p : ℕ) (put : IsPut old mid t n next) (charge_is : c ≡ charge t) (chunks_is : p ≡ chunks t) (files : Opens) (holds : Holds files t)
    (call : Call) (reply : Reply) (fault : DeviceFault) (step_is : step (limits_of old) (spare old) live.world call ≡ record { world = record { tree = t; desk = desk_of files }; reply = reply })
    (weighs : weight live.world call (record { world = record { tree = t; desk = desk_of files }; reply = reply }) ≡ Some n) (few : n ≤ 260) (can : (cause : Cause) → can_fail live.world call cause ≡ true) where
  pub boundary_fell : ChangeFault mid n next fault new.tx.machine → Fell old new live call fault
  boundary_fell h =
      let shows = sees old live sh mid t n next c p put charge_is chunks_is files holds in
      let saved = to_save old live sh mid t n next c p put charge_is chunks_is files holds in
      let room = room_for (seen (with_super mid next)) t (live.past.count + 1) (limits_of old) mid.machine put.tree shows (let h = put.low in omega arith) put.room (sh.keys ∙ sym put.bounds.room_keys) (sh.pages ∙ sym put.bounds.room_pages) in
      elim (change_falls mid n next fault new.tx.machine put.ready (let f = put.few in let l = sh.light.light in omega arith) room h) [
        | inl f ↦ record {
          stands = old.tx.machine.stable;
          fallen = fallen_from old.tx mid fault old.tx.machine.stable new.tx.machine same f.cause (f.stable ∙ put.stable) f.bounds;
          stood = as_before sh.saved;
          can = λ cause e. can cause;
        }
        | inr y ↦ record {
          stands = seen (with_super mid next);
          fallen = fallen_from old.tx mid fault (seen (with_super mid next)) new.tx.machine same y.1.cause y.1.stable y.1.bounds;
          stood = as_after n (ap (weight live.world call) step_is ∙ weighs)
              (ap (λ (a : After). is_boundary live.since call a.reply (Some n)) step_is ∙ (λ i. is_full (sym sh.changes i + 1) (sym sh.weight i + n)) ∙ (λ i. is_full (sym put.since i + 1) (sym put.weight i + n)) ∙ y.0)
              (subst (λ (t : Tree). IsWhole (limits_of old) (seen (with_super mid next)) t (live.past.count + 1)) (ap (λ (a : After). a.world.tree) (sym step_is)) saved);
          can = λ cause e. can cause;
        }
      ]

-- a plan with the open files after the call
pub record Planned (old : Volume) (mid : Tx) (call : Call) (files : Opens) (n c p : ℕ) (live : Live) : Type 0 where
  pub plan : Plan old.tx mid (limits_of old) live.world (desk_of files) call n c p
  pub holds : Holds files plan.world.tree

module _ (old : Volume) (mid : Tx) (same : mid ≡ pending_of mid old.tx) (call : Call) (files : Opens) (n c p : ℕ) (count : old.tx.changes + 1 < 2 ^ 63) (up : old.down ≡ None)
    (planned : (live : Live) → ShowsLive old live → Planned old mid call files n c p live) where
  world_is : (live : Live) (x : Planned old mid call files n c p live) → x.plan.world ≡ record { tree = x.plan.world.tree; desk = desk_of files }
  world_is live x = λ i. record { tree = x.plan.world.tree; desk = x.plan.desk i }

  planned_steps : (live : Live) (x : Planned old mid call files n c p live) → step (limits_of old) (spare old) live.world call ≡ record { world = record { tree = x.plan.world.tree; desk = desk_of files }; reply = replies.Done }
  planned_steps live x = x.plan.steps (spare old) ∙ (λ i. record { world = world_is live x i; reply = replies.Done })

  planned_weighs : (live : Live) (x : Planned old mid call files n c p live) → weight live.world call (record { world = record { tree = x.plan.world.tree; desk = desk_of files }; reply = replies.Done }) ≡ Some n
  planned_weighs live x = ap (λ (u : World). weight live.world call (record { world = u; reply = replies.Done })) (sym (world_is live x)) ∙ x.plan.weighs

  pub planned_goes : GoesOn old (lines.Call call) (answers.Reply replies.Done) (record old { tx = one_change mid n mid.next; charge = c; chunks = p; files = files })
  planned_goes =
      let m = changed_same old.tx mid same n mid.next in
      change_goes_at old (record old { tx = one_change mid n mid.next; charge = c; chunks = p; files = files }) call replies.Done n (spare old) (spare_free old) up m.cuts m.faults (changed_bounds old.tx mid same n mid.next) (λ live sh.
      let x = planned live sh in (
        record { tree = x.plan.world.tree; desk = desk_of files },
        planned_steps live x,
        planned_weighs live x,
        change_shown old live sh mid x.plan.world.tree n mid.next c p (plan_put old live sh mid (desk_of files) call n c p count x.plan) x.plan.charged x.plan.chunked files x.holds,
      ))

  -- where the change was counted
  pub planned_falls : (new : Volume) (fault : DeviceFault) → new.down ≡ Some (cause_of fault) → limits_of new ≡ limits_of old → ((live : Live) → ShowsLive old live → (cause : Cause) → can_fail live.world call cause ≡ true)
      → ChangeFault mid n mid.next fault new.tx.machine → Refuses old call (Device fault) new
  planned_falls new fault down limits can h = fall_goes old new call fault up down limits (λ live sh.
      let x = planned live sh in
      boundary_fell old new live sh mid same x.plan.world.tree n mid.next c p (plan_put old live sh mid (desk_of files) call n c p count x.plan) x.plan.charged x.plan.chunked files x.holds call replies.Done fault (planned_steps live x) (planned_weighs live x) x.plan.light (can live sh) h)

-- before any of the change was counted
pub early_falls : (old new : Volume) (call : Call) (m : ℕ) (fault : DeviceFault) → old.down ≡ None → new.down ≡ Some (cause_of fault) → limits_of new ≡ limits_of old → ((live : Live) → ShowsLive old live → (cause : Cause) → can_fail live.world call cause ≡ true)
    → ((live : Live) → ShowsLive old live → m ≤ 260) → FailsWithin old.tx m fault new.tx.machine → Refuses old call (Device fault) new
early_falls old new call m fault up down limits can few h = fall_goes old new call fault up down limits (λ live sh. record {
  stands = old.tx.machine.stable;
  fallen = h.fallen sh.light.ready (let a = few live sh in let b = sh.light.few in let c = sh.light.light in omega arith);
  stood = as_before sh.saved;
  can = λ cause e. can live sh cause;
})
