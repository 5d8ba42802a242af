-- Planned cuts and faults, as events of a life.
use Rattle.std.proofs.Common.{◌≡◌, ℕ, ◌<◌, ◌≤◌, ◌+◌, ◌^◌, true, Bool, Option, refl, ◌∙◌, ap, max, arith, subst, sym}
use Rattle.kv_base.specs.Counts.{one_more}
use Rattle.kv_device.specs.Machine.{view, with_most_cuts}
use Rattle.kfs_path.specs.declared.call.Reply.TheVariants as replies
use Rattle.kfs_model.specs.declared.Line.{Line}
use Rattle.kfs_model.specs.declared.Line.TheVariants as lines
use Rattle.kfs_model.specs.declared.Answer.TheVariants as answers
use Rattle.kfs_model.specs.Life.{State, Now, Up, Down, Live, EventAt}
use Rattle.kfs_shows.specs.Shows.{Shows}
use Rattle.kfs_tx.specs.Tx.{Tx, seen, age_of}
use Rattle.kfs_path.specs.declared.call.Cause.{Cause}
use Rattle.kfs_core.specs.Core.{KfsState, tx_in, Stays}
use Rattle.kfs_posix.specs.Opens.{Opens}
use Rattle.kfs_posix.specs.Volume.{Volume, SessionState, state_of, volume_of, running_in, limits_of}
use Rattle.kfs_posix.specs.Showing.{ShowsLive, ShowsNow, ShowsState, GoesOn, IsShowing}
use Rattle.std.proofs.Math.Logic.{∥∥₁_map}

-- other bounds on the counts
abbrev pub bounded : Tx → ℕ → ℕ → Tx
bounded r cuts faults = record r { machine = record r.machine { most_cuts = cuts; most_faults = faults } }

same_seen : (r : Tx) (cuts faults : ℕ) → seen (bounded r cuts faults) ≡ seen r
unfolding view
same_seen r cuts faults = refl

abbrev pub bounded_volume : Volume → ℕ → ℕ → Volume
bounded_volume b cuts faults = record b { tx = bounded b.tx cuts faults }

still_live : (b : Volume) (cuts faults : ℕ) (live : Live) → ShowsLive b live → ShowsLive (bounded_volume b cuts faults) live
still_live b cuts faults live sh = record {
  up = sh.up;
  tree = sh.tree;
  low = sh.low;
  few_changes = sh.few_changes;
  sees = subst (λ m. Shows m live.world.tree live.past.count) (sym (same_seen b.tx cuts faults)) sh.sees;
  saved = sh.saved;
  newest = sh.newest;
  behind = sh.behind;
  desk = sh.desk;
  holds = sh.holds;
  count = sh.count;
  next = sh.next;
  changes = sh.changes;
  weight = sh.weight;
  light = record { ready = record { up = sh.light.ready.up; alone = sh.light.ready.alone }; light = sh.light.light; few = sh.light.few };
  keys = sh.keys;
  pages = sh.pages;
  charged = sh.charged;
  chunked = sh.chunked;
  room = sh.room;
}

still_shows : (b : Volume) (cuts faults : ℕ) (now : Now) → ShowsNow b now → ShowsNow (bounded_volume b cuts faults) now
still_shows b cuts faults (Up live) sh = still_live b cuts faults live sh
still_shows b cuts faults (Down past may) sh = record { cause = sh.cause; down = sh.down; stands = sh.stands; may_be = sh.may_be; saved = sh.saved; keys = sh.keys; pages = sh.pages }

-- a line that plans leaves these bounds, and arms what it says
module _ (b : Volume) (cuts faults : ℕ) (line : Line) (cut fail : State → Bool) where
  abbrev pub armed : State → Now → State
  armed s now = record { now = now; cut_armed = cut s; fail_armed = fail s }

  bounded_goes : ((s : State) (now : Now) → EventAt (limits_of b) s now line (answers.Reply replies.Done) (armed s now))
      → ((s : State) → ShowsState b s → ShowsNow (bounded_volume b cuts faults) s.now → ShowsState (bounded_volume b cuts faults) (armed s s.now)) → GoesOn b line (answers.Reply replies.Done) (bounded_volume b cuts faults)
  bounded_goes event shown = record { each = λ s fits. let sh = still_shows b cuts faults s.now fits.now in (armed s s.now, event s s.now, sh, λ showing. shown s showing sh) }

pub plan_goes : (b : Volume) (n how : ℕ) → b.tx.machine.cuts + 1 < 2 ^ 63 → GoesOn b (lines.Cut n how) (answers.Reply replies.Done) (bounded_volume b (with_most_cuts b.tx.machine).most_cuts b.tx.machine.most_faults)
plan_goes b n how few = bounded_goes b (with_most_cuts b.tx.machine).most_cuts b.tx.machine.most_faults (lines.Cut n how) (λ s. true) (λ s. s.fail_armed) event (λ s showing sh. record {
  now = sh;
  cuts = omega arith;
  faults = showing.faults;
  most_cuts = let h = showing.most_cuts in let f = showing.few_cuts in omega arith;
  most_faults = showing.most_faults;
  few_cuts = omega arith;
  few_faults = showing.few_faults;
})
  where
    event : (s : State) (now : Now) → EventAt (limits_of b) s now (lines.Cut n how) (answers.Reply replies.Done) (record { now = now; cut_armed = true; fail_armed = s.fail_armed })
    event s (Up live) = (refl, refl)
    event s (Down past may) = (refl, refl)

pub fail_goes : (b : Volume) (kind n most : ℕ) → b.tx.machine.faults ≤ most → most ≤ one_more b.tx.machine.faults → b.tx.machine.faults + 1 < 2 ^ 63 → GoesOn b (lines.Fail kind n) (answers.Reply replies.Done) (bounded_volume b b.tx.machine.most_cuts most)
fail_goes b kind n most fewest least few = bounded_goes b b.tx.machine.most_cuts most (lines.Fail kind n) (λ s. s.cut_armed) (λ s. true) event (λ s showing sh. record {
  now = sh;
  cuts = showing.cuts;
  faults = omega arith;
  most_cuts = showing.most_cuts;
  most_faults = fewest;
  few_cuts = showing.few_cuts;
  few_faults = omega arith;
})
  where
    event : (s : State) (now : Now) → EventAt (limits_of b) s now (lines.Fail kind n) (answers.Reply replies.Done) (record { now = now; cut_armed = s.cut_armed; fail_armed = true })
    event s (Up live) = (refl, refl)
    event s (Down past may) = (refl, refl)

-- ---- of a session

module _ (k0 k1 : KfsState) (o : Opens) (d : Option Cause) (cuts faults : ℕ) (rest : Stays k0 k1) (planned : tx_in k1 ≡ bounded (tx_in k0) cuts faults) where
  bounded_is : bounded_volume (volume_of k0 o d) cuts faults ≡ volume_of k1 o d
  bounded_is = sym (ap (λ (k : KfsState). volume_of k o d) rest ∙ (λ i. record (volume_of k0 o d) { tx = planned i }))

  pub plan_by : (old : SessionState) (line : Line) → state_of k0 o d ≡ old → GoesOn (volume_of k0 o d) line (answers.Reply replies.Done) (bounded_volume (volume_of k0 o d) cuts faults) → GoesOn old.volume line (answers.Reply replies.Done) (volume_of k1 o d)
  plan_by old line is goes = subst (λ (s : SessionState). GoesOn s.volume line (answers.Reply replies.Done) (volume_of k1 o d)) is (subst (GoesOn (volume_of k0 o d) line (answers.Reply replies.Done)) bounded_is goes)

  -- some live state is shown still
  pub plan_showing : IsShowing (volume_of k0 o d) → IsShowing (volume_of k1 o d)
  plan_showing showing = subst IsShowing bounded_is (λ none. ∥∥₁_map (showing none) (λ x. (x.0, still_live (volume_of k0 o d) cuts faults x.0 x.1)))

  -- the numbers stay
  pub plan_numbers : (old : SessionState) → state_of k0 o d ≡ old → k1.running.device_age ≡ k0.running.device_age → age_of k1.running ≡ age_of (running_in old)
  plan_numbers old is age = (λ i. max (age i) (max (planned i).changes (planned i).next)) ∙ ap (λ (s : SessionState). age_of (running_in s)) is
