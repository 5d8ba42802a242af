-- Telling the tree and due jobs as events of a life, by what they did.
use Rattle.std.proofs.Common.{◌≡◌, ℕ, ◌<◌, ◌≤◌, ◌^◌, not, true, cond, refl, sym, ap, subst, arith, List, Option, Some, None}
use Rattle.kv_device.specs.declared.fault.DeviceFault.{DeviceFault}
use Rattle.kv_device.specs.declared.fault.DeviceFault.TheVariants.{NoTx, Busy, TxFull, Full, BadSize, Off, Failed, Memory}
use Rattle.kv_device.specs.Machine.{Machine}
use Rattle.kv_device.specs.Calls.{IsFault, Falls, WorkFault}
use Rattle.kfs_path.specs.declared.call.Call.TheVariants as calls
use Rattle.kfs_path.specs.declared.call.Cause.{Cause}
use Rattle.kfs_path.specs.declared.call.Reply.{Reply}
use Rattle.kfs_path.specs.declared.call.Reply.TheVariants as replies
use Rattle.kfs_path.specs.declared.call.TreeItem.{TreeItem}
use Rattle.kfs_model.specs.declared.Line.TheVariants as lines
use Rattle.kfs_model.specs.declared.Answer.TheVariants as answers
use Rattle.kfs_tx.specs.Tx.{SameBounds, Fallen, seen}
use Rattle.kfs_core.specs.declared.fault.CoreFault.{CoreFault}
use Rattle.kfs_core.specs.declared.fault.CoreFault.TheVariants.{No, Device}
use Rattle.kfs_core.specs.Core.{KfsState, tx_in, Stays}
use Rattle.kfs_core.specs.Returned.{LeavesAtFault}
use Rattle.kfs_core.specs.Listing.{ListsAll, IsOfDevice}
use Rattle.kfs_core.specs.Working.{WorkFails}
use Rattle.kfs_core.proofs.Told.{told_same}
use Rattle.kfs_posix.specs.Opens.{Opens}
use Rattle.kfs_posix.specs.Volume.{Volume, SessionState, state_of, volume_of, limits_of, cause_of}
use Rattle.kfs_posix.specs.Answering.{refusal, down_after}
use Rattle.kfs_posix.specs.Showing.{GoesOn}
use Rattle.kfs_posix.proofs.Going.{as_before, idle_goes, fall_goes, Refuses}
use Rattle.kfs_posix.proofs.Calls.{few_seen, stands_of, read_falls, any_cause}
use Rattle.kfs_posix.proofs.Fault.{alone_caused}
use Rattle.kfs_posix.proofs.Events.{taken_down, Happens, Fails, idle}

-- ---- the tree

tree_goes : (old : Volume) (items : List TreeItem) → old.down ≡ None → old.keys < 2 ^ 32 → ListsAll (seen old.tx) items → GoesOn old (lines.Call calls.Tree) (answers.Reply (replies.Tree items)) old
tree_goes old items up small lists = idle_goes old calls.Tree (replies.Tree items) up (λ w x. refl) refl (λ live sh.
    ap (λ xs. record { world = live.world; reply = replies.Tree xs }) (sym (told_same (seen old.tx) live.world.tree (stands_of old live sh) (few_seen old live sh small) items lists)))

-- ---- due jobs

work_goes : (old : Volume) (operations : ℕ) → old.down ≡ None → GoesOn old (lines.Call (calls.Work operations)) (answers.Reply replies.Done) old
work_goes old operations up = idle_goes old (calls.Work operations) replies.Done up (λ w x. refl) refl (λ live sh. refl)

bounds_along : (m new x : Machine) → new ≡ x → SameBounds m x → SameBounds m new
bounds_along m new x e same = subst (SameBounds m) (sym e) same

work_fallen : (m : Machine) (fault : DeviceFault) (new : Machine) → Falls m fault new → Fallen m fault m.stable new
work_fallen m NoTx new h = absurd h
work_fallen m Busy new h = absurd h
work_fallen m TxFull new h = absurd h
work_fallen m (Full keys pages) new h = absurd h
work_fallen m BadSize new h = absurd h
work_fallen m Off new h = record { cause = (h.0, ap (λ (x : Machine). x.faults) h.1); stable = ap (λ (x : Machine). x.stable) h.1; bounds = bounds_along m new _ h.1 (record { most_cuts = refl; most_faults = refl; room_keys = refl; room_pages = refl }) }
work_fallen m Failed new h = record { cause = (h.0, ap (λ (x : Machine). x.cuts) h.1); stable = ap (λ (x : Machine). x.stable) h.1; bounds = bounds_along m new _ h.1 (record { most_cuts = refl; most_faults = refl; room_keys = refl; room_pages = refl }) }
work_fallen m Memory new h = record { cause = (ap (λ (x : Machine). x.cuts) h, ap (λ (x : Machine). x.faults) h); stable = ap (λ (x : Machine). x.stable) h; bounds = bounds_along m new _ h (record { most_cuts = refl; most_faults = refl; room_keys = refl; room_pages = refl }) }

work_falls : (old new : Volume) (operations : ℕ) (fault : DeviceFault) → old.down ≡ None → new.down ≡ Some (cause_of fault) → limits_of new ≡ limits_of old → WorkFault old.tx.machine fault new.tx.machine
    → Refuses old (calls.Work operations) (Device fault) new
work_falls old new operations fault up down limits h = fall_goes old new (calls.Work operations) fault up down limits (λ live sh. record {
  stands = old.tx.machine.stable;
  fallen = work_fallen old.tx.machine fault new.tx.machine (subst (λ o. IsFault o Falls old.tx.machine fault new.tx.machine) (λ i. cond (not (sh.light.ready.up i)) (Some Off) None) h);
  stood = as_before sh.saved;
  can = λ cause e. any_cause live.world (calls.Work operations) refl refl refl cause;
})

-- ---- of a session

module _ (old : SessionState) (k0 k1 : KfsState) (o : Opens) (d : Option Cause) (is : state_of k0 o d ≡ old) (up : d ≡ None) (awake : (tx_in k0).machine.up ≡ true) (rest : Stays k0 k1) where
  abbrev b : Volume
  b = volume_of k0 o d

  pub tree_answered : (items : List TreeItem) → k0.keys ≤ 68544 → ListsAll (seen (tx_in k0)) items → tx_in k1 ≡ tx_in k0 → Happens old calls.Tree (replies.Tree items) k1 o d
  tree_answered items small lists leaves = idle old k0 k1 o d is up rest calls.Tree (replies.Tree items) tt leaves (tree_goes b items up (omega arith) lists)

  pub tree_failed : (fault : CoreFault) (reply : Reply) (d1 : Option Cause) → IsOfDevice fault → LeavesAtFault (tx_in k0) fault (tx_in k1) → reply ≡ refusal fault → d1 ≡ down_after d fault → Fails old calls.Tree fault reply k1 o d1
  tree_failed (No e) reply d1 own leaves reply_is down = absurd own
  tree_failed (Device f) reply d1 own leaves reply_is down =
      taken_down old k0 k1 o o d is up calls.Tree f reply d1 reply_is down awake rest refl (alone_caused (tx_in k0).machine f (tx_in k1).machine leaves.1)
      (read_falls b (record b { tx = tx_in k1; down = Some (cause_of f) }) calls.Tree f (λ w. refl) (λ w. refl) up refl refl leaves)

  module _ (operations : ℕ) where
    pub work_answered : tx_in k1 ≡ tx_in k0 → Happens old (calls.Work operations) replies.Done k1 o d
    work_answered leaves = idle old k0 k1 o d is up rest (calls.Work operations) replies.Done tt leaves (work_goes b operations up)

    pub work_failed : (fault : CoreFault) (reply : Reply) (d1 : Option Cause) → WorkFails (tx_in k0) (tx_in k1) fault → reply ≡ refusal fault → d1 ≡ down_after d fault → Fails old (calls.Work operations) fault reply k1 o d1
    work_failed (No e) reply d1 h reply_is down = absurd h
    work_failed (Device f) reply d1 h reply_is down =
        taken_down old k0 k1 o o d is up (calls.Work operations) f reply d1 reply_is down awake rest refl (alone_caused (tx_in k0).machine f (tx_in k1).machine h.1)
        (work_falls b (record b { tx = tx_in k1; down = Some (cause_of f) }) operations f up refl refl h.0)
