-- What a session that is up shows: some live state, before each call and after it.
use Rattle.std.proofs.Common.{◌≡◌, ◌<◌, ◌≤◌, ◌+◌, ◌^◌, ◌∙◌, ℕ, true, false, Bool, refl, sym, ap, subst, arith, Option, Some, None}
use Rattle.std.proofs.Math.Logic.{∥∥₁_elim, ∥∥₁_map}
use mathlib.Core.Bool.{Bool-set}
use mathlib.Core.HLevel.{Unit-prop, ⊥_prop}
use Rattle.kv_base.specs.Counts.{one_more}
use Rattle.kv_device.specs.declared.fault.DeviceFault.{DeviceFault}
use Rattle.kv_device.specs.declared.fault.DeviceFault.TheVariants as faults
use Rattle.kfs_path.specs.declared.call.Call.{Call}
use Rattle.kfs_path.specs.declared.call.Cause.{Cause}
use Rattle.kfs_path.specs.declared.call.Reply.{Reply}
use Rattle.kfs_model.specs.declared.Answer.{Answer}
use Rattle.kfs_model.specs.declared.Answer.TheVariants as answers
use Rattle.kfs_model.specs.declared.Line.{Line}
use Rattle.kfs_model.specs.declared.Line.TheVariants as lines
use Rattle.kfs_model.specs.Life.{State, Now, Up, Down, Live, Event}
use Rattle.kfs_core.specs.declared.fault.CoreFault.{CoreFault}
use Rattle.kfs_core.specs.declared.fault.CoreFault.TheVariants.{No, Device}
use Rattle.kfs_core.specs.Core.{KfsState}
use Rattle.kfs_posix.specs.Opens.{Opens}
use Rattle.kfs_posix.specs.Volume.{Volume, SessionState, state_of, volume_of, limits_of}
use Rattle.kfs_posix.specs.Answering.{IsAnswerable}
use Rattle.kfs_posix.specs.Showing.{ShowsLive, ShowsNow, ShowsState, Fits, GoesOn, IsShowing, one_if}
use Rattle.kfs_posix.proofs.Going.{Refuses}

-- ---- each state that a planned device shows fits

armed_by : (old most : ℕ) (armed : Bool) → most ≤ old + one_if armed → most < 2 ^ 63 → one_more old ≤ most → armed ≡ true
armed_by old most true le few may = refl
armed_by old most false le few may = absurd (let h = may in omega arith)

pub fits : (b : Volume) (s : State) → ShowsState b s → Fits b s
fits b s shows = record {
  now = shows.now;
  cuts = armed_by b.tx.machine.cuts b.tx.machine.most_cuts s.cut_armed (let h = shows.cuts in omega arith) shows.few_cuts;
  faults = armed_by b.tx.machine.faults b.tx.machine.most_faults s.fail_armed shows.faults shows.few_faults;
}

-- so the line and its answer lead from one such state to another
pub planned : (old : Volume) (line : Line) (answer : Answer) (new : Volume) → GoesOn old line answer new → (s : State) → ShowsState old s → (t : State) × Event (limits_of old) s line answer t × ShowsState new t
planned old line answer new goes s shows = let e = goes.each s (fits old s shows) in (e.0, e.1, e.3 shows)

-- ---- some live state

-- all is armed
abbrev ready : Live → State
ready live = record { now = Up live; cut_armed = true; fail_armed = true }

pub still_showing : (old new : Volume) (line : Line) (answer : Answer) → old.down ≡ None → GoesOn old line answer new → IsShowing old → IsShowing new
still_showing old new line answer up goes showing none = ∥∥₁_map (showing up) (λ x.
    let e = goes.each (ready x.0) (record { now = x.1; cuts = λ may. refl; faults = λ may. refl }) in
    by e.0.now e.2)
  where
    by : (now : Now) → ShowsNow new now → (live : Live) × ShowsLive new live
    by (Up live) sh = (live, sh)
    by (Down past may) sh = absurd (let e : None ≡ Some sh.cause = sym none ∙ sh.down in cc)

pub awake_in : (b : Volume) → IsShowing b → b.down ≡ None → b.tx.machine.up ≡ true
awake_in b showing none = ∥∥₁_elim (showing none) (Bool-set _ _) (λ x. x.1.light.ready.up)

-- ---- what a fault is

outside_prop : (fault : DeviceFault) → IsProp (IsAnswerable (Device fault))
outside_prop faults.NoTx = ⊥_prop
outside_prop faults.Busy = ⊥_prop
outside_prop faults.TxFull = ⊥_prop
outside_prop (faults.Full keys pages) = ⊥_prop
outside_prop faults.BadSize = ⊥_prop
outside_prop faults.Off = Unit-prop
outside_prop faults.Failed = Unit-prop
outside_prop faults.Memory = Unit-prop

answerable_prop : (fault : CoreFault) → IsProp (IsAnswerable fault)
answerable_prop (No e) = Unit-prop
answerable_prop (Device fault) = outside_prop fault

-- ---- of a session, by what it was made of

pub showing_in : (old : SessionState) (k0 : KfsState) (o : Opens) (d : Option Cause) → state_of k0 o d ≡ old → IsShowing (volume_of k0 o d) → IsShowing old.volume
showing_in old k0 o d is showing = subst (λ (s : SessionState). IsShowing s.volume) is showing

pub showing_after : (old : SessionState) (k0 : KfsState) (o : Opens) (d : Option Cause) → state_of k0 o d ≡ old → d ≡ None → IsShowing (volume_of k0 o d) → (call : Call) (reply : Reply) (new : Volume) → GoesOn old.volume (lines.Call call) (answers.Reply reply) new → IsShowing new
showing_after old k0 o d is up showing call reply new goes = still_showing old.volume new (lines.Call call) (answers.Reply reply) (sym (ap (λ (s : SessionState). s.volume.down) is) ∙ up) goes (showing_in old k0 o d is showing)

pub answers_it : (old : SessionState) (k0 : KfsState) (o : Opens) (d : Option Cause) → state_of k0 o d ≡ old → d ≡ None → (call : Call) (fault : CoreFault) (new : Volume) → Refuses (volume_of k0 o d) call fault new → IsShowing old.volume → IsAnswerable fault
answers_it old k0 o d is up call fault new refuses showing =
    let here : IsShowing (volume_of k0 o d) = subst (λ (s : SessionState). IsShowing s.volume) (sym is) showing in
    ∥∥₁_elim (here up) (answerable_prop fault) (λ x. refuses.answerable x.0 x.1)
