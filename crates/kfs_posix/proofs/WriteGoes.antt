-- Written bytes as an event of a life, whichever call writes them.
use Rattle.std.proofs.Common.{◌≡◌, ℕ, ◌<◌, ◌≤◌, ◌+◌, ◌-◌, ◌^◌, inl, inr, true, sym, ◌∙◌, ap, subst, arith, List, length, Some, None}
use Rattle.kv_device.specs.declared.fault.DeviceFault.{DeviceFault}
use Rattle.kfs_path.specs.declared.call.Call.{Call}
use Rattle.kfs_path.specs.declared.call.Cause.{Cause}
use Rattle.kfs_path.specs.declared.call.Reply.{Reply}
use Rattle.kfs_model.specs.declared.Node.TheVariants.{File}
use Rattle.kfs_model.specs.declared.Line.TheVariants as lines
use Rattle.kfs_model.specs.declared.Answer.TheVariants as answers
use Rattle.kfs_model.specs.Tree.{Tree, node_of, with_node, written, charge, chunks, greatest_length, has_room}
use Rattle.kfs_model.specs.Step.{World, After, step}
use Rattle.kfs_model.specs.Change.{weight, spanned, is_boundary}
use Rattle.kfs_model.specs.Life.{Live, can_fail}
use Rattle.kfs_tx.specs.Tx.{Tx, SameBounds, Fallen, seen, one_change, with_super, is_full}
use Rattle.kfs_core.specs.Files.{PutsBytes, WriteFault, with_length}
use Rattle.kfs_core.specs.Room.{grown, chunks_for}
use Rattle.kfs_core.proofs.FileEffects.{put_numbers, length_ready, length_few, new_is_tree, new_shows, charge_after, chunks_after}
use Rattle.kfs_core.proofs.FileFaults.{write_falls}
use Rattle.kfs_posix.specs.Opens.{Opens, desk_of}
use Rattle.kfs_posix.specs.Holding.{Holds}
use Rattle.kfs_posix.specs.Volume.{Volume, limits_of, cause_of}
use Rattle.kfs_posix.specs.Showing.{ShowsLive, IsWhole, GoesOn}
use Rattle.kfs_posix.proofs.Changing.{IsPut, change_shown, sees, to_save}
use Rattle.kfs_posix.proofs.Going.{Fell, spare, spare_free, as_before, as_after, change_goes_at, fall_goes, Refuses}
use Rattle.kfs_posix.proofs.Calls.{stands_of, room_for}
use Rattle.kfs_file.specs.Contents.{pending_of}
use Rattle.kfs_posix.proofs.Planned.{changed_same, changed_bounds}
use Rattle.kfs_posix.proofs.Fault.{SameMachine}
use Rattle.kfs_core.specs.declared.fault.CoreFault.TheVariants.{Device}

-- what the call does to the tree that is shown: the file n gets the given bytes from p on
pub record Puts (old : Volume) (n size p : ℕ) (given : List ℕ) (call : Call) (reply : Reply) (files : Opens) (live : Live) : Type 0 where
  pub bytes : List ℕ
  pub file : node_of live.world.tree n ≡ Some (File bytes)
  pub size_is : size ≡ length bytes
  pub step_is : step (limits_of old) (spare old) live.world call ≡ record { world = record { tree = with_node live.world.tree n (File (written bytes p given)); desk = desk_of files }; reply = reply }
  pub weighs : weight live.world call (record { world = record { tree = with_node live.world.tree n (File (written bytes p given)); desk = desk_of files }; reply = reply }) ≡ Some (2 + spanned p (length given))
  pub holds : Holds files (with_node live.world.tree n (File (written bytes p given)))
  pub fits : p + length given ≤ greatest_length
  pub some : 0 < length given
  pub room : has_room (limits_of old) (with_node live.world.tree n (File (written bytes p given))) ≡ true

module _ (old : Volume) (n size p : ℕ) (given : List ℕ) (call : Call) (reply : Reply) (files : Opens) (count : old.tx.changes + 1 < 2 ^ 63) where
  abbrev more : ℕ
  more = chunks_for (grown size p (length given)) - chunks_for size

  abbrev w : ℕ
  w = 2 + spanned p (length given)

  module _ (put : Tx) (puts : PutsBytes old.tx n p given put) where
    abbrev r : ℕ → Tx
    r was = with_length put n (grown was p (length given))

    record Planned (was : ℕ) (tree : Tree) : Type 0 where
      put_is : IsPut old (r was) tree w put.next
      charged : old.charge + (chunks_for (grown was p (length given)) - chunks_for was) ≡ charge tree
      chunked : old.chunks + (chunks_for (grown was p (length given)) - chunks_for was) ≡ chunks tree

    planned : (live : Live) → ShowsLive old live → (it : Puts old n size p given call reply files live) → Planned size (with_node live.world.tree n (File (written it.bytes p given)))
    planned live sh it =
        let t = live.world.tree in
        let stands = stands_of old live sh in
        let bytes = it.bytes in
        let long = length bytes in
        let numbers = put_numbers old.tx put n p given puts (grown long p (length given)) in
        subst (λ s. Planned s (with_node t n (File (written bytes p given)))) (sym it.size_is) (record {
          put_is = record {
            ready = length_ready old.tx put n p given puts sh.light.ready (grown long p (length given));
            tree = new_is_tree old.tx put n p given puts sh.light.ready t stands bytes it.file it.fits;
            shows = new_shows old.tx put n p given puts sh.light.ready t stands bytes it.file it.fits;
            low = sh.low;
            few_changes = let c = numbers.changes in omega arith;
            next_is = numbers.next ∙ sh.next;
            changes = numbers.changes;
            since = numbers.since;
            weight = numbers.weight;
            stable = numbers.stable;
            bounds = numbers.bounds;
            few = length_few old.tx put n p given puts sh.light.ready (grown long p (length given)) old.tx.weight it.some sh.light.few;
            room = it.room;
          };
          charged = ap (λ c. c + (chunks_for (grown long p (length given)) - chunks_for long)) sh.charged ∙ charge_after t n bytes sh.tree it.file p given;
          chunked = ap (λ c. c + (chunks_for (grown long p (length given)) - chunks_for long)) sh.chunked ∙ chunks_after t n bytes sh.tree it.file p given;
        })

    pub same_numbers : SameMachine old.tx.machine (one_change (r size) w put.next).machine × SameBounds old.tx.machine (one_change (r size) w put.next).machine
    same_numbers =
        let only : r size ≡ pending_of (r size) old.tx = ap (λ (x : Tx). record x { machine = record x.machine { pending = (r size).machine.pending } }) puts.writes.same in
        (changed_same old.tx (r size) only w put.next, changed_bounds old.tx (r size) only w put.next)

    pub put_goes : old.down ≡ None → ((live : Live) → ShowsLive old live → Puts old n size p given call reply files live)
        → GoesOn old (lines.Call call) (answers.Reply reply) (record old { tx = one_change (r size) w put.next; charge = old.charge + more; chunks = old.chunks + more; files = files })
    put_goes up puts_at =
        change_goes_at old (record old { tx = one_change (r size) w put.next; charge = old.charge + more; chunks = old.chunks + more; files = files }) call reply w (spare old) (spare_free old) up same_numbers.0.cuts same_numbers.0.faults same_numbers.1
        (λ live sh.
        let it = puts_at live sh in
        let plan = planned live sh it in
        let tree = with_node live.world.tree n (File (written it.bytes p given)) in
        (record { tree = tree; desk = desk_of files }, it.step_is, it.weighs, change_shown old live sh (r size) tree w put.next (old.charge + more) (old.chunks + more) plan.put_is plan.charged plan.chunked files it.holds))

  pub wrote_falls : (new : Volume) (fault : DeviceFault) → old.down ≡ None → new.down ≡ Some (cause_of fault) → limits_of new ≡ limits_of old → ((world : World) (cause : Cause) → can_fail world call cause ≡ true)
      → ((live : Live) → ShowsLive old live → Puts old n size p given call reply files live)
      → WriteFault old.tx n size p given fault new.tx.machine → Refuses old call (Device fault) new
  wrote_falls new fault up down same can puts_at h = fall_goes old new call fault up down same (λ live sh.
      let it = puts_at live sh in
      let tree = with_node live.world.tree n (File (written it.bytes p given)) in
      let before : Fallen old.tx.machine fault old.tx.machine.stable new.tx.machine → Fell old new live call fault = λ a. record { stands = old.tx.machine.stable; fallen = a; stood = as_before sh.saved; can = λ cause e. can live.world cause } in
      elim (write_falls old.tx n size p given fault new.tx.machine sh.light.ready (let f = sh.light.few in let l = sh.light.light in omega arith) it.fits (λ put puts.
      let plan = planned put puts live sh it in
      let shows = sees old live sh (r put puts size) tree w put.next (old.charge + more) (old.chunks + more) plan.put_is plan.charged plan.chunked files it.holds in
      room_for (seen (with_super (r put puts size) put.next)) tree (live.past.count + 1) (limits_of old) old.tx.machine plan.put_is.tree shows (let h = plan.put_is.low in omega arith) plan.put_is.room sh.keys sh.pages) h) [
        | inl a ↦ before a
        | inr x ↦
            let put = x.0 in
            let puts = x.1 in
            let plan = planned put puts live sh it in
            let saved = to_save old live sh (r put puts size) tree w put.next (old.charge + more) (old.chunks + more) plan.put_is plan.charged plan.chunked files it.holds in
            record {
              stands = seen (with_super (r put puts size) put.next);
              fallen = x.3;
              stood = as_after w (ap (weight live.world call) it.step_is ∙ it.weighs)
                  (ap (λ (a : After). is_boundary live.since call a.reply (Some w)) it.step_is ∙ (λ i. is_full (sym sh.changes i + 1) (sym sh.weight i + w)) ∙ x.2)
                  (subst (λ t. IsWhole (limits_of old) (seen (with_super (r put puts size) put.next)) t (live.past.count + 1)) (ap (λ (a : After). a.world.tree) (sym it.step_is)) saved);
              can = λ cause e. can live.world cause;
            }
      ])
