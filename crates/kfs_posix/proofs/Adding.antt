-- A new node as an event of a life, whichever call makes it.
use Rattle.std.proofs.Common.{◌≡◌, ℕ, ◌<◌, ◌≤◌, ◌+◌, ◌^◌, ◌&&◌, inl, inr, true, false, refl, sym, ◌∙◌, ap, subst, arith, List, [], ◌∷◌, ◌++◌, length, Some, None, nat_lt, nat_le}
use Rattle.std.specs.Ordering.{nat_cmp}
use Rattle.std.specs.FinMap.{find}
use Rattle.std.proofs.lemmas.Bool.Decides.{nat_tests}
use Rattle.kv_device.specs.declared.fault.DeviceFault.{DeviceFault}
use Rattle.kfs_objects.specs.Keys.{inode_key, entry_key}
use Rattle.kfs_objects.specs.Records.{inode_value, entry_value}
use Rattle.kfs_objects.proofs.KeyLaws.{length_be64}
use Rattle.kfs_path.specs.declared.call.Call.{Call}
use Rattle.kfs_path.specs.declared.call.Cause.{Cause}
use Rattle.kfs_path.specs.declared.call.Reply.{Reply}
use Rattle.kfs_model.specs.declared.Node.{Node}
use Rattle.kfs_model.specs.declared.Line.TheVariants as lines
use Rattle.kfs_model.specs.declared.Answer.TheVariants as answers
use Rattle.kfs_model.specs.Tree.{Place, Tree, charge, chunks, chunks_of, with_new}
use Rattle.kfs_model.specs.Step.{World, step}
use Rattle.kfs_model.specs.Change.{weight}
use Rattle.kfs_model.specs.Life.{Live, can_fail}
use Rattle.kfs_shows.specs.Shows.{inode_of}
use Rattle.kfs_shows.proofs.Making.{IsFreePlace, IsFresh}
use Rattle.kfs_tx.specs.Tx.{Tx, Fallen}
use Rattle.kfs_tx.proofs.Seeing.{ready_put, keys_put}
use Rattle.kfs_tx.proofs.Falling.{put_falls}
use Rattle.kfs_core.specs.Flat.{Where}
use Rattle.kfs_core.specs.Making.{parent_of, with_inode, with_entry, added, AddFault}
use Rattle.kfs_core.proofs.Adding.{free_place, entry_ready, entry_keys, new_is_tree, new_shows, new_chunks, new_charge}
use Rattle.kfs_core.proofs.Ways.{IsSpot}
use Rattle.kfs_posix.specs.Opens.{Opens, desk_of}
use Rattle.kfs_posix.specs.Holding.{Holds}
use Rattle.kfs_posix.specs.Volume.{Volume, limits_of, cause_of}
use Rattle.kfs_posix.specs.Showing.{ShowsLive, GoesOn}
use Rattle.kfs_posix.proofs.Changing.{IsPut, change_shown}
use Rattle.kfs_posix.proofs.Going.{Fell, spare, as_before, change_goes_at, fall_goes, Refuses}
use Rattle.kfs_posix.proofs.Calls.{stands_of}
use Rattle.kfs_core.specs.declared.fault.CoreFault.TheVariants.{Device}
use Rattle.kfs_posix.proofs.Planned.{boundary_fell, changed_same, changed_bounds}
use Rattle.kfs_posix.proofs.Rooms.{both_true}

small_value : (n : ℕ) (key : List ℕ) → (nat_lt 128 (length (entry_value n)) && nat_lt 32 (length key)) ≡ false
small_value n key = let h = length_be64 n in let f : nat_lt 128 (length (entry_value n)) ≡ false = grind (arith, nat_tests) in ap (λ b. b && nat_lt 32 (length key)) f

small_inode : (kind : ℕ) (key : List ℕ) → (nat_lt 128 (length (inode_value kind 0)) && nat_lt 32 (length key)) ≡ false
small_inode kind key = let h = length_be64 0 in let f : nat_lt 128 (length (inode_value kind 0)) ≡ false = grind (arith, nat_tests) in ap (λ b. b && nat_lt 32 (length key)) f

-- what the call does to the tree that is shown: the new node lies where the walk over the objects ended
pub record Adds (old : Volume) (node : Node) (call : Call) (reply : Reply) (files : Opens) (d : ℕ) (w : Where) (live : Live) : Type 0 where
  pub place : Place
  pub spot : IsSpot live.world.tree place w
  pub nothing : w.node ≡ None
  pub step_is : step (limits_of old) d live.world call ≡ record { world = record { tree = with_new live.world.tree place node; desk = desk_of files }; reply = reply }
  pub weighs : weight live.world call (record { world = record { tree = with_new live.world.tree place node; desk = desk_of files }; reply = reply }) ≡ Some 4
  pub holds : Holds files (with_new live.world.tree place node)
  pub fits : old.charge + 2 ≤ old.keys

module _ (old : Volume) (kind : ℕ) (node : Node) (fresh : IsFresh node) (value_is : inode_of node ≡ inode_value kind 0) (none : chunks_of node ≡ 0) (w : Where)
    (low : old.tx.next + 1 < 2 ^ 63) (count : old.tx.changes + 1 < 2 ^ 63) where
  abbrev r : Tx
  r = with_entry old.tx kind (parent_of w) w.name

  record Planned (tree : Tree) : Type 0 where
    put : IsPut old r tree 4 (old.tx.next + 1)
    charged : old.charge + 2 ≡ charge tree
    chunked : old.chunks ≡ chunks tree

  planned_at : old.charge + 2 ≤ old.keys → (live : Live) → ShowsLive old live → (q : Place) → IsFreePlace live.world.tree q w.name (parent_of w) → Planned (with_new live.world.tree (q ++ w.name ∷ []) node)
  planned_at fits live sh q free =
      let t = live.world.tree in
      let stands = stands_of old live sh in
      let charge_is = new_charge old.tx kind (parent_of w) w.name sh.light.ready t stands sh.next q free node fresh value_is none in
      let chunks_is = new_chunks old.tx kind (parent_of w) w.name sh.light.ready t stands sh.next q free node fresh value_is none in
      record {
        put = record {
          ready = entry_ready old.tx kind (parent_of w) w.name sh.light.ready;
          tree = new_is_tree old.tx kind (parent_of w) w.name sh.light.ready t stands sh.next q free node fresh value_is none;
          shows = new_shows old.tx kind (parent_of w) w.name sh.light.ready t stands sh.next q free node fresh value_is none;
          low = let h = sh.next in omega arith;
          few_changes = count;
          next_is = ap (λ n. n + 1) sh.next;
          changes = refl;
          since = refl;
          weight = refl;
          stable = refl;
          bounds = record { most_cuts = refl; most_faults = refl; room_keys = refl; room_pages = refl };
          few = let a = entry_keys old.tx kind (parent_of w) w.name sh.light.ready in let c = sh.light.few in omega arith;
          room =
              let h = both_true (nat_le (charge t) old.keys) (nat_le (chunks t) old.pages) sh.room in
              let c = sh.charged in
              let f : nat_le (charge (with_new t (q ++ w.name ∷ []) node)) old.keys ≡ true = grind (arith, nat_tests) in
              λ i. (f i && (ap (λ n. nat_le n old.pages) chunks_is ∙ h.1) i);
        };
        charged = ap (λ n. n + 2) sh.charged ∙ sym charge_is;
        chunked = sh.chunked ∙ sym chunks_is;
      }

  planned : (call : Call) (reply : Reply) (files : Opens) (d : ℕ) (live : Live) → ShowsLive old live → (adds : Adds old node call reply files d w live) → Planned (with_new live.world.tree adds.place node)
  planned call reply files d live sh adds =
      let at = free_place live.world.tree adds.place w adds.spot adds.nothing in
      subst (λ place. Planned (with_new live.world.tree place node)) (sym at.1) (planned_at adds.fits live sh at.0 at.2)

  pub add_goes : (call : Call) (reply : Reply) (files : Opens) (d : ℕ) → find nat_cmp d old.files.files ≡ None → old.down ≡ None → ((live : Live) → ShowsLive old live → Adds old node call reply files d w live)
      → GoesOn old (lines.Call call) (answers.Reply reply) (record old { tx = added old.tx kind (parent_of w) w.name; charge = old.charge + 2; files = files })
  add_goes call reply files d free up adds =
      let k = changed_same old.tx r refl 4 (old.tx.next + 1) in
      change_goes_at old (record old { tx = added old.tx kind (parent_of w) w.name; charge = old.charge + 2; files = files }) call reply 4 d free up k.cuts k.faults (changed_bounds old.tx r refl 4 (old.tx.next + 1))
      (λ live sh.
      let a = adds live sh in
      let plan = planned call reply files d live sh a in
      let tree = with_new live.world.tree a.place node in
      (record { tree = tree; desk = desk_of files }, a.step_is, a.weighs, change_shown old live sh r tree 4 (old.tx.next + 1) (old.charge + 2) old.chunks plan.put plan.charged plan.chunked files a.holds))

  pub add_falls : (new : Volume) (call : Call) (reply : Reply) (files : Opens) (fault : DeviceFault) → old.down ≡ None → new.down ≡ Some (cause_of fault) → limits_of new ≡ limits_of old → ((world : World) (cause : Cause) → can_fail world call cause ≡ true)
      → ((live : Live) → ShowsLive old live → Adds old node call reply files (spare old) w live)
      → AddFault old.tx kind (parent_of w) w.name fault new.tx.machine → Refuses old call (Device fault) new
  add_falls new call reply files fault up down same can adds h = fall_goes old new call fault up down same (λ live sh. fell live sh (adds live sh) h)
    where
      before : (live : Live) → ShowsLive old live → Fallen old.tx.machine fault old.tx.machine.stable new.tx.machine → Fell old new live call fault
      before live sh a = record { stands = old.tx.machine.stable; fallen = a; stood = as_before sh.saved; can = λ cause e. can live.world cause }

      fell : (live : Live) → ShowsLive old live → Adds old node call reply files (spare old) w live → AddFault old.tx kind (parent_of w) w.name fault new.tx.machine → Fell old new live call fault
      fell live sh adds (inl a) = before live sh (put_falls old.tx (inode_key old.tx.next) (inode_value kind 0) fault new.tx.machine sh.light.ready (let f = sh.light.few in let l = sh.light.light in omega arith) (small_inode kind (inode_key old.tx.next)) a)
      fell live sh adds (inr (inl a)) =
          let ready1 = ready_put old.tx (inode_key old.tx.next) (inode_value kind 0) sh.light.ready in
          let few1 = keys_put old.tx (inode_key old.tx.next) (inode_value kind 0) sh.light.ready in
          let f = put_falls (with_inode old.tx kind) (entry_key (parent_of w) w.name) (entry_value old.tx.next) fault new.tx.machine ready1 (let f = sh.light.few in let l = sh.light.light in omega arith) (small_value old.tx.next (entry_key (parent_of w) w.name)) a in
          before live sh (record { cause = f.cause; stable = f.stable; bounds = record { most_cuts = f.bounds.most_cuts; most_faults = f.bounds.most_faults; room_keys = f.bounds.room_keys; room_pages = f.bounds.room_pages } })
      fell live sh adds (inr (inr a)) =
          let plan = planned call reply files (spare old) live sh adds in
          boundary_fell old new live sh r refl (with_new live.world.tree adds.place node) 4 (old.tx.next + 1) (old.charge + 2) old.chunks plan.put plan.charged plan.chunked files adds.holds call reply fault adds.step_is adds.weighs (omega arith) (can live.world) a
