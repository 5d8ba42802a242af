-- A name that is taken away, as an event of a life.
use Rattle.std.proofs.Common.{◌≡◌, ℕ, ◌<◌, ◌≤◌, ◌+◌, ◌-◌, ◌^◌, ◌⊎◌, inl, inr, true, false, Bool, refl, sym, ◌∙◌, ap, subst, arith, List, Some, None, Result, Ok, Err}
use Rattle.kv_device.specs.declared.fault.DeviceFault.{DeviceFault}
use Rattle.kv_device.specs.Machine.{Machine}
use Rattle.kfs_objects.specs.Keys.{entry_key}
use Rattle.kfs_path.specs.declared.call.Call.{Call}
use Rattle.kfs_path.specs.declared.call.Call.TheVariants as calls
use Rattle.kfs_path.specs.declared.call.Cause.{Cause}
use Rattle.kfs_path.specs.declared.call.Errno.{Errno}
use Rattle.kfs_path.specs.declared.call.Reply.TheVariants as replies
use Rattle.kfs_model.specs.declared.Line.TheVariants as lines
use Rattle.kfs_model.specs.declared.Answer.TheVariants as answers
use Rattle.kfs_model.specs.Ladder.{◌>>=◌}
use Rattle.kfs_model.specs.Tree.{Place, without_place}
use Rattle.kfs_model.specs.Desk.{Desk, is_open}
use Rattle.kfs_model.specs.Step.{World, After, syntax, step, settled, swept, unlink, rmdir_at, leaves_swept}
use Rattle.kfs_model.specs.Change.{weight, commits}
use Rattle.kfs_model.specs.Life.{Live, can_fail}
use Rattle.kfs_shows.specs.Sweeping.{with_tree}
use Rattle.kfs_tx.specs.Tx.{Tx, Caused, seen, deleted_in, one_change}
use Rattle.kfs_file.specs.Contents.{pending_of}
use Rattle.kfs_core.specs.declared.removing.Leaf.{Leaf}
use Rattle.kfs_core.specs.Removing.{Unnames, UnlinkFault, chunks_gone, keys_gone, unlink_in, rmdir_in}
use Rattle.kfs_core.proofs.Dropped.{goes_follows}
use Rattle.kfs_core.proofs.Ladders.{of_ok}
use Rattle.kfs_core.proofs.RemovingJudges.{IsLeaf, UnlinksLeaf, unlink_same, RemovesLeaf, rmdir_same}
use Rattle.kfs_core.proofs.Plans.{Plan, leaf_light, unlink_plan, unlink_refused, rmdir_plan, rmdir_refused}
use Rattle.kfs_posix.specs.Opens.{desk_of, without_name}
use Rattle.kfs_posix.specs.Holding.{Holds}
use Rattle.kfs_posix.specs.Removing.{open_now, unlink_by, rmdir_by}
use Rattle.kfs_posix.specs.Volume.{Volume, limits_of, cause_of}
use Rattle.kfs_posix.specs.Showing.{ShowsLive, GoesOn}
use Rattle.kfs_posix.proofs.Held.{world_in}
use Rattle.kfs_posix.proofs.Going.{spare, idle_goes, Refuses}
use Rattle.kfs_posix.proofs.Calls.{stands_of, any_cause}
use Rattle.kfs_posix.proofs.Planned.{Planned, world_shown, planned_goes, planned_falls, early_falls, change_caused}
use Rattle.kfs_posix.proofs.Unnaming.{listed_same, forgets, leaf_holds}
use Rattle.kfs_core.specs.declared.fault.CoreFault.TheVariants.{Device}

-- a call that takes away the entry that it judged
pub record IsRemoval (old : Volume) (call : Call) (judge : Result Leaf Errno) : Type 0 where
  pub plan : (live : Live) → ShowsLive old live → (leaf : Leaf) → judge ≡ Ok leaf → (mid : Tx) → Unnames old.tx leaf (open_now old.files leaf.node) mid
      → Plan old.tx mid (limits_of old) live.world live.world.desk call (4 + chunks_gone leaf (open_now old.files leaf.node)) (old.charge - keys_gone leaf (open_now old.files leaf.node)) (old.chunks - chunks_gone leaf (open_now old.files leaf.node))
  pub leaf : (live : Live) → ShowsLive old live → (leaf : Leaf) → judge ≡ Ok leaf
      → (place : Place) × IsLeaf live.world.tree place leaf × ((d : ℕ) → step (limits_of old) d live.world call ≡ record { world = swept (with_tree live.world (without_place live.world.tree place)); reply = replies.Done })
  pub refused : (live : Live) → ShowsLive old live → (e : Errno) → judge ≡ Err e → (d : ℕ) → step (limits_of old) d live.world call ≡ record { world = live.world; reply = replies.Err e }
  pub weightless : (e : Errno) (w x : World) → weight w call (record { world = x; reply = replies.Err e }) ≡ None
  pub quiet : (e : Errno) → commits call (replies.Err e) ≡ false
  pub can : (w : World) (cause : Cause) → can_fail w call cause ≡ true

-- only the pending changes are others
pub unnames_same : (r : Tx) (leaf : Leaf) (b : Bool) (mid : Tx) → Unnames r leaf b mid → mid ≡ pending_of mid r
unnames_same r leaf true mid h = subst (λ (x : Tx). x ≡ pending_of x r) (sym h) refl
unnames_same r leaf false mid h = (goes_follows (deleted_in r (entry_key leaf.parent leaf.name)) mid leaf.node leaf.size h).same

module _ (old : Volume) (call : Call) (judge : Result Leaf Errno) (removal : IsRemoval old call judge) (count : old.tx.changes + 1 < 2 ^ 63) (up : old.down ≡ None) where
  abbrev open_still : Leaf → Bool
  open_still leaf = open_now old.files leaf.node

  abbrev pub unname_weight : Leaf → ℕ
  unname_weight leaf = 4 + chunks_gone leaf (open_still leaf)

  abbrev charge_left : Leaf → ℕ
  charge_left leaf = old.charge - keys_gone leaf (open_still leaf)

  abbrev chunks_left : Leaf → ℕ
  chunks_left leaf = old.chunks - chunks_gone leaf (open_still leaf)

  planned : (leaf : Leaf) → judge ≡ Ok leaf → (mid : Tx) → Unnames old.tx leaf (open_still leaf) mid → (live : Live) → ShowsLive old live → Planned old mid call (without_name old.files leaf.node) (unname_weight leaf) (charge_left leaf) (chunks_left leaf) live
  planned leaf is mid does live sh =
      let o = old.files in
      let t = live.world.tree in
      let desk_is : live.world.desk ≡ desk_of (without_name o leaf.node) = sh.desk ∙ sym (forgets o leaf.node) in
      let plan = subst (λ (desk : Desk). Plan old.tx mid (limits_of old) live.world desk call (unname_weight leaf) (charge_left leaf) (chunks_left leaf)) desk_is (removal.plan live sh leaf is mid does) in
      let at = removal.leaf live sh leaf is in
      let tree_is : (swept (world_in (without_place t at.0) o)).tree ≡ plan.world.tree =
      (λ i. (swept (record { tree = without_place t at.0; desk = sym sh.desk i })).tree) ∙ ap (λ (a : After). a.world.tree) (sym (at.2 0) ∙ plan.steps 0) in
      record { plan = plan; holds = subst (Holds (without_name o leaf.node)) tree_is (leaf_holds t o at.0 leaf sh.tree at.1 sh.holds) }

  pub unname_goes : (leaf : Leaf) → judge ≡ Ok leaf → (mid : Tx) → Unnames old.tx leaf (open_still leaf) mid
      → GoesOn old (lines.Call call) (answers.Reply replies.Done) (record old { tx = one_change mid (unname_weight leaf) mid.next; charge = charge_left leaf; chunks = chunks_left leaf; files = without_name old.files leaf.node })
  unname_goes leaf is mid does =
      planned_goes old mid (unnames_same old.tx leaf (open_still leaf) mid does) call (without_name old.files leaf.node) (unname_weight leaf) (charge_left leaf) (chunks_left leaf) count up (planned leaf is mid does)

  pub unname_refused : (e : Errno) → judge ≡ Err e → GoesOn old (lines.Call call) (answers.Reply (replies.Err e)) old
  unname_refused e is = idle_goes old call (replies.Err e) up (removal.weightless e) (removal.quiet e) (λ live sh. removal.refused live sh e is (spare old))

  pub unname_falls : (new : Volume) (leaf : Leaf) (fault : DeviceFault) → judge ≡ Ok leaf → new.down ≡ Some (cause_of fault) → limits_of new ≡ limits_of old → UnlinkFault old.tx leaf (open_still leaf) fault new.tx.machine
      → Refuses old call (Device fault) new
  unname_falls new leaf fault is down limits (inl h) = early_falls old new call (2 + chunks_gone leaf (open_still leaf)) fault up down limits (λ live sh cause. removal.can live.world cause) (λ live sh.
      let at = removal.leaf live sh leaf is in
      let l = leaf_light old.tx sh.light.ready (limits_of old) live.world (world_shown old live sh) (let h = sh.low in omega arith) sh.room old.charge old.chunks sh.charged sh.chunked at.0 leaf at.1 (open_still leaf) in
      omega arith) h
  unname_falls new leaf fault is down limits (inr (mid, does, h)) =
      planned_falls old mid (unnames_same old.tx leaf (open_still leaf) mid does) call (without_name old.files leaf.node) (unname_weight leaf) (charge_left leaf) (chunks_left leaf) count up (planned leaf is mid does) new fault down limits (λ live sh cause. removal.can live.world cause) h

-- the fault of a removal has a cause from outside
pub unname_caused : (r : Tx) (leaf : Leaf) (b : Bool) (fault : DeviceFault) (new : Machine) → UnlinkFault r leaf b fault new → Caused r.machine fault new
unname_caused r leaf b fault new (inl h) = h.cause
unname_caused r leaf b fault new (inr (mid, does, h)) = change_caused r mid (4 + chunks_gone leaf b) mid.next fault new (unnames_same r leaf b mid does) h

-- ---- the two calls

pub ok_bind : {X Y : Type 0} (r : Result X Errno) (f : X → Result Y Errno) (y : Y) → (r >>= f) ≡ Ok y → (x : X) × (r ≡ Ok x) × (f x ≡ Ok y)
ok_bind (Ok x) f y e = (x, refl, e)
ok_bind (Err d) f y e = absurd (cc)

pub err_bind : {X Y : Type 0} (r : Result X Errno) (f : X → Result Y Errno) (e : Errno) → (r >>= f) ≡ Err e → (r ≡ Err e) ⊎ ((x : X) × (r ≡ Ok x) × (f x ≡ Err e))
err_bind (Ok x) f e h = inr (x, refl, h)
err_bind {X} (Err d) f e h = let same : d ≡ e = cc in inl (λ i. Err (same i))

module _ (old : Volume) (path : List ℕ) where
  pub listed : (live : Live) (sh : ShowsLive old live) (n : ℕ) → n < 2 ^ 64 → open_now old.files n ≡ is_open live.world.desk n
  listed live sh n small = listed_same old.files live.world.tree sh.tree sh.low sh.holds n small ∙ ap (λ (desk : Desk). is_open desk n) (sym sh.desk)

  pub reach : (live : Live) → ShowsLive old live → live.world.tree.next ≤ 2 ^ 63
  reach live sh = let h = sh.low in omega arith

  pub unlink_removal : IsRemoval old (calls.Unlink path) (unlink_by (seen old.tx) path)
  unlink_removal = record {
    plan = λ live sh leaf is mid does.
        let at = ok_bind (syntax path) (unlink_in (seen old.tx)) leaf is in
        unlink_plan old.tx sh.light.ready (limits_of old) live.world (world_shown old live sh) (reach live sh) sh.room old.charge old.chunks sh.charged sh.chunked (open_now old.files) (listed live sh) path at.0 at.1 leaf at.2 mid does;
    leaf = λ live sh leaf is.
        let t = live.world.tree in
        let at = ok_bind (syntax path) (unlink_in (seen old.tx)) leaf is in
        let stands = stands_of old live sh in
        let it = of_ok (UnlinksLeaf (seen old.tx) t stands live.world.desk) (unlink live.world path) (unlink_in (seen old.tx) at.0) leaf (unlink_same (seen old.tx) t stands live.world.desk path at.0 at.1) at.2 in
        (it.2.0, it.2.1, λ d. ap (settled live.world) it.1 ∙ ap (settled live.world) (ap Ok it.2.2));
    refused = λ live sh e is d. elim (err_bind (syntax path) (unlink_in (seen old.tx)) e is) [
      | inl none ↦ rw none refl
      | inr x ↦ unlink_refused old.tx sh.light.ready (limits_of old) live.world (world_shown old live sh) (reach live sh) sh.room old.charge old.chunks sh.charged sh.chunked path x.0 x.1 e x.2 d
    ];
    weightless = λ e w x. refl;
    quiet = λ e. refl;
    can = λ w cause. any_cause w (calls.Unlink path) refl refl refl cause;
  }

  pub rmdir_removal : IsRemoval old (calls.Rmdir path) (rmdir_by (seen old.tx) path)
  rmdir_removal = record {
    plan = λ live sh leaf is mid does.
        let at = ok_bind (syntax path) (rmdir_in (seen old.tx)) leaf is in
        rmdir_plan old.tx sh.light.ready (limits_of old) live.world (world_shown old live sh) (reach live sh) sh.room old.charge old.chunks sh.charged sh.chunked (open_now old.files) (listed live sh) path at.0 at.1 leaf at.2 mid does;
    leaf = λ live sh leaf is.
        let t = live.world.tree in
        let at = ok_bind (syntax path) (rmdir_in (seen old.tx)) leaf is in
        let stands = stands_of old live sh in
        let it = of_ok (RemovesLeaf (seen old.tx) t stands) (rmdir_at t path) (rmdir_in (seen old.tx) at.0) leaf (rmdir_same (seen old.tx) t stands path at.0 at.1) at.2 in
        (it.0, it.2.0, λ d. ap (λ (x : Result Place Errno). settled live.world (x >>= λ place. leaves_swept live.world (without_place t place) replies.Done)) it.1);
    refused = λ live sh e is d. elim (err_bind (syntax path) (rmdir_in (seen old.tx)) e is) [
      | inl none ↦ rw none refl
      | inr x ↦ rmdir_refused old.tx sh.light.ready (limits_of old) live.world (world_shown old live sh) (reach live sh) sh.room old.charge old.chunks sh.charged sh.chunked path x.0 x.1 e x.2 d
    ];
    weightless = λ e w x. refl;
    quiet = λ e. refl;
    can = λ w cause. any_cause w (calls.Rmdir path) refl refl refl cause;
  }
