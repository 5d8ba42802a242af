-- `rename` of a session as an event of a life.
use Rattle.std.proofs.Common.{◌≡◌, ℕ, ◌<◌, ◌+◌, ◌-◌, ◌^◌, inl, inr, true, false, cond, Bool, refl, sym, ◌∙◌, ap, subst, arith, List, Option, Some, None, Result, Ok, Err}
use Rattle.kv_device.specs.declared.fault.DeviceFault.{DeviceFault}
use Rattle.kv_device.specs.Machine.{Machine}
use Rattle.kfs_path.specs.declared.call.Call.{Call}
use Rattle.kfs_path.specs.declared.call.Call.TheVariants as calls
use Rattle.kfs_path.specs.declared.call.Errno.{Errno}
use Rattle.kfs_path.specs.declared.call.Reply.TheVariants as replies
use Rattle.kfs_model.specs.declared.Line.TheVariants as lines
use Rattle.kfs_model.specs.declared.Answer.TheVariants as answers
use Rattle.kfs_model.specs.Ladder.{◌>>=◌}
use Rattle.kfs_model.specs.Tree.{Tree, Place, without_place, renamed, IsTree}
use Rattle.kfs_model.specs.Desk.{Desk, is_open}
use Rattle.kfs_model.specs.Step.{World, After, Route, syntax, settled, swept, rename}
use Rattle.kfs_model.specs.Change.{weight, has_left}
use Rattle.kfs_model.specs.Life.{Live}
use Rattle.kfs_tx.specs.Tx.{Tx, Caused, seen, one_change}
use Rattle.kfs_file.specs.Contents.{pending_of}
use Rattle.kfs_core.specs.declared.removing.Leaf.{Leaf}
use Rattle.kfs_core.specs.declared.renaming.Move.{Move}
use Rattle.kfs_core.specs.Removing.{Loses}
use Rattle.kfs_core.specs.Renaming.{Replaces, MoveFault, with_moved, chunks_replaced, keys_replaced, replaced_node, rename_in}
use Rattle.kfs_core.proofs.Dropped.{goes_follows}
use Rattle.kfs_core.proofs.Ladders.{of_ok}
use Rattle.kfs_core.proofs.NamesAfter.{IsReplaced, move_others, move_nameless}
use Rattle.kfs_core.proofs.RenamingJudges.{IsMove, MovesPath, rename_same}
use Rattle.kfs_core.proofs.Plans.{Plan, move_light, rename_plan, rename_rests, rename_refused}
use Rattle.kfs_posix.specs.Opens.{Opens, desk_of}
use Rattle.kfs_posix.specs.Holding.{Holds}
use Rattle.kfs_posix.specs.Removing.{open_now}
use Rattle.kfs_posix.specs.Renaming.{rename_by, without_replaced}
use Rattle.kfs_posix.specs.Volume.{Volume, limits_of, cause_of}
use Rattle.kfs_posix.specs.Showing.{ShowsLive, GoesOn}
use Rattle.kfs_posix.proofs.Held.{world_in}
use Rattle.kfs_posix.proofs.Going.{spare, spare_free, idle_goes, turn_goes, Refuses}
use Rattle.kfs_posix.proofs.Calls.{stands_of, any_cause}
use Rattle.kfs_posix.proofs.Planned.{Planned, world_shown, planned_goes, planned_falls, early_falls, change_caused}
use Rattle.kfs_posix.proofs.Unnaming.{forgets, forgets_holds, keeps_holds}
use Rattle.kfs_posix.proofs.UnnameGoes.{ok_bind, err_bind, listed, reach}
use Rattle.kfs_core.specs.declared.fault.CoreFault.TheVariants.{Device}

-- which description has which node doesn't change
replaced_desk : (o : Opens) (n : Option ℕ) → desk_of (without_replaced o n) ≡ desk_of o
replaced_desk o None = refl
replaced_desk o (Some n) = forgets o n

-- what is known after a move
moved_holds : (t : Tree) (o : Opens) (p q : Place) (move : Move) → IsTree t → IsMove t p q move → Holds o t → Holds (without_replaced o (replaced_node move)) (swept (world_in (renamed (without_place t q) p q) o)).tree
moved_holds t o p q move tree is holds = by move.replaced refl
  where
    u : Tree
    u = renamed (without_place t q) p q

    by : (x : Option Leaf) → move.replaced ≡ x → Holds (without_replaced o (replaced_node move)) (swept (world_in (renamed (without_place t q) p q) o)).tree
    by None e =
        subst (λ (n : Option ℕ). Holds (without_replaced o n) (swept (world_in (renamed (without_place t q) p q) o)).tree) (sym (node_of_none e))
        (keeps_holds t (renamed (without_place t q) p q) o refl (λ k. move_others t tree p q move is k (λ r. subst (λ (x : Option Leaf). IsReplaced x k) e r)) holds)
      where
        node_of_none : move.replaced ≡ None → replaced_node move ≡ None
        node_of_none e = rw e refl
    by (Some leaf) e =
        subst (λ (n : Option ℕ). Holds (without_replaced o n) (swept (world_in (renamed (without_place t q) p q) o)).tree) (sym (node_of_some e))
        (forgets_holds t (renamed (without_place t q) p q) o leaf.node refl (λ k apart. move_others t tree p q move is k (λ r. apart (subst (λ (x : Option Leaf). IsReplaced x k) e r))) (move_nameless t tree p q move is leaf e) holds)
      where
        node_of_some : move.replaced ≡ Some leaf → replaced_node move ≡ Some leaf.node
        node_of_some e = rw e refl

-- only the pending changes are others
loses_same : (r : Tx) (n size : ℕ) (b : Bool) (mid : Tx) → Loses r n size b mid → mid ≡ pending_of mid r
loses_same r n size true mid h = subst (λ (x : Tx). x ≡ pending_of x r) (sym h) refl
loses_same r n size false mid h = (goes_follows r mid n size h).same

replaces_same : (r : Tx) (x : Option Leaf) (is_open : ℕ → Bool) (mid : Tx) → Replaces r x is_open mid → mid ≡ pending_of mid r
replaces_same r None is_open mid h = subst (λ (x : Tx). x ≡ pending_of x r) (sym h) refl
replaces_same r (Some leaf) is_open mid h = loses_same r leaf.node leaf.size (is_open leaf.node) mid h

pub moved_same : (r : Tx) (move : Move) (is_open : ℕ → Bool) (mid : Tx) → Replaces r move.replaced is_open mid → with_moved mid move ≡ pending_of (with_moved mid move) r
moved_same r move is_open mid h = ap (λ (x : Tx). record x { machine = record x.machine { pending = (with_moved mid move).machine.pending } }) (replaces_same r move.replaced is_open mid h)

-- the fault of a move has a cause from outside
pub rename_caused : (r : Tx) (move : Move) (is_open : ℕ → Bool) (fault : DeviceFault) (new : Machine) → MoveFault r move is_open fault new → Caused r.machine fault new
rename_caused r move is_open fault new (inl h) = h.cause
rename_caused r move is_open fault new (inr (mid, does, h)) = change_caused r (with_moved mid move) (4 + chunks_replaced move.replaced is_open) mid.next fault new (moved_same r move is_open mid does) h

-- an error has no weight
no_weight : (from to : List ℕ) (e : Errno) (w x : World) → weight w (calls.Rename from to) (record { world = x; reply = replies.Err e }) ≡ None
no_weight from to e w x = by (has_left w.tree x.tree from)
  where
    by : (b : Bool) → cond {A = Option ℕ} b None None ≡ None
    by true = refl
    by false = refl

module _ (old : Volume) (from to : List ℕ) (up : old.down ≡ None) where
  abbrev call : Call
  call = calls.Rename from to

  abbrev pub judge : Result (Option Move) Errno
  judge = rename_by (seen old.tx) from to

  routes : (x : Option Move) → judge ≡ Ok x → (f : Route) × (g : Route) × (syntax from ≡ Ok f) × (syntax to ≡ Ok g) × (rename_in (seen old.tx) f g ≡ Ok x)
  routes x is =
      let a = ok_bind (syntax from) (λ f. syntax to >>= λ g. rename_in (seen old.tx) f g) x is in
      let b = ok_bind (syntax to) (λ g. rename_in (seen old.tx) a.0 g) x a.2 in
      (a.0, b.0, a.1, b.1, b.2)

  -- both paths name one place
  pub rename_rest : judge ≡ Ok None → GoesOn old (lines.Call call) (answers.Reply replies.Done) old
  rename_rest is = turn_goes old old.files call replies.Done (spare old) (spare_free old) up refl (λ live sh.
      let at = routes None is in
      let rests = rename_rests old.tx sh.light.ready (limits_of old) live.world (world_shown old live sh) (reach old from live sh) sh.room old.charge old.chunks sh.charged sh.chunked from to at.0 at.1 at.2 at.3 at.4 in (
        rests.0 (spare old) ∙ (λ i. record { world = record { tree = live.world.tree; desk = sh.desk i }; reply = replies.Done }),
        (λ i. weight live.world call (record { world = record { tree = live.world.tree; desk = sym sh.desk i }; reply = replies.Done })) ∙ rests.1,
        sh.holds,
      ))

  pub rename_no : (e : Errno) → judge ≡ Err e → GoesOn old (lines.Call call) (answers.Reply (replies.Err e)) old
  rename_no e is = idle_goes old call (replies.Err e) up (no_weight from to e) refl (λ live sh. elim (err_bind (syntax from) (λ f. syntax to >>= λ g. rename_in (seen old.tx) f g) e is) [
    | inl none ↦ rw none refl
    | inr x ↦ elim (err_bind (syntax to) (λ g. rename_in (seen old.tx) x.0 g) e x.2) [
      | inl none ↦ rw (x.1, none) refl
      | inr y ↦ rename_refused old.tx sh.light.ready (limits_of old) live.world (world_shown old live sh) (reach old from live sh) sh.room old.charge old.chunks sh.charged sh.chunked from to x.0 y.0 x.1 y.1 e y.2 (spare old)
    ]
  ])

  module _ (move : Move) (is : judge ≡ Ok (Some move)) where
    abbrev n : ℕ
    n = 4 + chunks_replaced move.replaced (open_now old.files)

    abbrev c : ℕ
    c = old.charge - keys_replaced move.replaced (open_now old.files)

    abbrev p : ℕ
    p = old.chunks - chunks_replaced move.replaced (open_now old.files)

    abbrev files : Opens
    files = without_replaced old.files (replaced_node move)

    ways : (live : Live) (sh : ShowsLive old live) → (x : After) × (rename live.world from to ≡ Ok x) × MovesPath (seen old.tx) live.world.tree (stands_of old live sh) live.world.desk from x (Some move)
    ways live sh =
        let at = routes (Some move) is in
        let t = live.world.tree in
        let stands = stands_of old live sh in
        of_ok (MovesPath (seen old.tx) t stands live.world.desk from) (rename live.world from to) (rename_in (seen old.tx) at.0 at.1) (Some move) (rename_same (seen old.tx) t stands live.world.desk from to at.0 at.1 at.2 at.3) at.4

    planned : (mid : Tx) → Replaces old.tx move.replaced (open_now old.files) mid → (live : Live) → ShowsLive old live → Planned old (with_moved mid move) call files n c p live
    planned mid does live sh =
        let o = old.files in
        let t = live.world.tree in
        let at = routes (Some move) is in
        let desk_is : live.world.desk ≡ desk_of files = sh.desk ∙ sym (replaced_desk o (replaced_node move)) in
        let plan = subst (λ (desk : Desk). Plan old.tx (with_moved mid move) (limits_of old) live.world desk call n c p) desk_is
        (rename_plan old.tx sh.light.ready (limits_of old) live.world (world_shown old live sh) (reach old from live sh) sh.room old.charge old.chunks sh.charged sh.chunked (open_now o) (listed old from live sh) from to at.0 at.1 at.2 at.3 move at.4 mid does) in
        let it = ways live sh in
        let tree_is : (swept (world_in (renamed (without_place t it.2.1) it.2.0 it.2.1) o)).tree ≡ plan.world.tree =
        (λ i. (swept (record { tree = renamed (without_place t it.2.1) it.2.0 it.2.1; desk = sym sh.desk i })).tree) ∙ ap (λ (a : After). a.world.tree) (sym (ap (settled live.world) it.1 ∙ it.2.4) ∙ plan.steps 0) in
        record { plan = plan; holds = subst (Holds files) tree_is (moved_holds t o it.2.0 it.2.1 move sh.tree it.2.2 sh.holds) }

    module _ (count : old.tx.changes + 1 < 2 ^ 63) where
      pub rename_goes : (mid : Tx) → Replaces old.tx move.replaced (open_now old.files) mid → GoesOn old (lines.Call call) (answers.Reply replies.Done) (record old { tx = one_change (with_moved mid move) n mid.next; charge = c; chunks = p; files = files })
      rename_goes mid does = planned_goes old (with_moved mid move) (moved_same old.tx move (open_now old.files) mid does) call files n c p count up (planned mid does)

      pub rename_falls : (new : Volume) (fault : DeviceFault) → new.down ≡ Some (cause_of fault) → limits_of new ≡ limits_of old → MoveFault old.tx move (open_now old.files) fault new.tx.machine
          → Refuses old call (Device fault) new
      rename_falls new fault down limits (inl h) = early_falls old new call (3 + chunks_replaced move.replaced (open_now old.files)) fault up down limits (λ live sh cause. any_cause live.world call refl refl refl cause) (λ live sh.
          let it = ways live sh in
          let l = move_light old.tx sh.light.ready (limits_of old) live.world (world_shown old live sh) (reach old from live sh) sh.room old.charge old.chunks sh.charged sh.chunked it.2.0 it.2.1 move it.2.2 (open_now old.files) in
          omega arith) h
      rename_falls new fault down limits (inr (mid, does, h)) =
          planned_falls old (with_moved mid move) (moved_same old.tx move (open_now old.files) mid does) call files n c p count up (planned mid does) new fault down limits (λ live sh cause. any_cause live.world call refl refl refl cause) h
