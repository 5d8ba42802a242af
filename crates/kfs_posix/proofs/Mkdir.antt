-- `mkdir` of a session as an event of a life.
use Rattle.std.proofs.Common.{◌≡◌, ℕ, ◌<◌, ◌≤◌, ◌+◌, ◌^◌, true, false, Bool, refl, sym, ◌∙◌, ap, subst, arith, List, Some, None, is_some, Result, Ok, Err, nat_lt}
use Rattle.std.proofs.lemmas.Bool.Decides.{nat_tests}
use Rattle.kv_device.specs.declared.fault.DeviceFault.{DeviceFault}
use Rattle.kv_device.specs.Objects.{Objects}
use Rattle.kfs_path.specs.declared.call.Call.TheVariants as calls
use Rattle.kfs_path.specs.declared.call.Reply.TheVariants as replies
use Rattle.kfs_path.specs.declared.call.Errno.{Errno}
use Rattle.kfs_model.specs.declared.Node.TheVariants.{Dir}
use Rattle.kfs_model.specs.declared.Line.TheVariants as lines
use Rattle.kfs_model.specs.declared.Answer.TheVariants as answers
use Rattle.kfs_model.specs.Ladder.{◌>>=◌, ◌>>◌, ◌when◌, bind_ok, then_ok}
use Rattle.kfs_path.specs.declared.call.Errno.TheVariants.{EEXIST, ENOSPC}
use Rattle.kfs_model.specs.Tree.{Place, with_new, number_at}
use Rattle.kfs_model.specs.Step.{syntax, settled, mkdir_at, leaves}
use Rattle.kfs_model.specs.Life.{Live}
use Rattle.kfs_shows.proofs.Making.{fresh_dir}
use Rattle.kfs_tx.specs.Tx.{seen}
use Rattle.kfs_core.specs.Flat.{Where, at_root, walk_in, place_in}
use Rattle.kfs_core.specs.Making.{parent_of, made, MakeFault}
use Rattle.kfs_core.proofs.Ways.{IsSpot}
use Rattle.kfs_core.proofs.Judges.{place_same, SamePlace}
use Rattle.kfs_posix.specs.Volume.{Volume, limits_of, cause_of}
use Rattle.kfs_posix.proofs.Held.{new_holds}
use Rattle.kfs_posix.proofs.Adding.{Adds, add_goes, add_falls}
use Rattle.kfs_core.proofs.Adding.{free_place}
use Rattle.kfs_posix.specs.Showing.{ShowsLive, GoesOn}
use Rattle.kfs_posix.proofs.Going.{spare, spare_free, idle_goes, Refuses}
use Rattle.kfs_posix.proofs.Calls.{stands_of, any_cause}
use Rattle.kfs_core.specs.declared.fault.CoreFault.TheVariants.{Device}

-- where a place was found, there is room
pub place_fits : (m : Objects) (keys charged : ℕ) (path : List ℕ) (w : Where) → place_in m keys charged path ≡ Ok w → charged + 2 ≤ keys
place_fits m keys charged path w e =
    let a = bind_ok (syntax path) (λ route. walk_in m at_root route.pieces >>= λ w. (EEXIST when is_some w.node) >> ((ENOSPC when nat_lt keys (charged + 2)) >> Ok w)) w e in
    let b = bind_ok (walk_in m at_root a.0.pieces) (λ w. (EEXIST when is_some w.node) >> ((ENOSPC when nat_lt keys (charged + 2)) >> Ok w)) w a.2 in
    let c = then_ok (EEXIST when is_some b.0.node) ((ENOSPC when nat_lt keys (charged + 2)) >> Ok b.0) w b.2 in
    by b.0 (nat_lt keys (charged + 2)) refl c
  where
    by : (v : Where) (f : Bool) → nat_lt keys (charged + 2) ≡ f → ((ENOSPC when f) >> Ok v) ≡ Ok w → charged + 2 ≤ keys
    by v true f c = absurd (cc)
    by v false f c = grind (arith, nat_tests)

module _ (old : Volume) (path : List ℕ) where
  judged_ok : (live : Live) (sh : ShowsLive old live) (r : Result Place Errno) (s : Result Where Errno) (w : Where) → SamePlace (seen old.tx) live.world.tree (stands_of old live sh) r s → s ≡ Ok w → (place : Place) × (r ≡ Ok place) × IsSpot live.world.tree place w × (w.node ≡ None)
  judged_ok live sh (Ok place) (Ok v) w h e = let same : v ≡ w = cc in (place, refl, subst (IsSpot live.world.tree place) same h.0, ap (λ (x : Where). x.node) (sym same) ∙ h.1)
  judged_ok live sh (Ok place) (Err f) w h e = absurd h
  judged_ok live sh (Err d) (Ok v) w h e = absurd h
  judged_ok live sh (Err d) (Err f) w h e = absurd (cc)

  judged_err : (live : Live) (sh : ShowsLive old live) (r : Result Place Errno) (s : Result Where Errno) (f : Errno) → SamePlace (seen old.tx) live.world.tree (stands_of old live sh) r s → s ≡ Err f → r ≡ Err f
  judged_err live sh (Ok place) (Ok v) f h e = absurd (cc)
  judged_err live sh (Ok place) (Err d) f h e = absurd h
  judged_err live sh (Err d) (Ok v) f h e = absurd h
  judged_err live sh (Err c) (Err d) f h e = let g : d ≡ f = cc in ap Err (h ∙ g)

  same_place : (live : Live) (sh : ShowsLive old live) → SamePlace (seen old.tx) live.world.tree (stands_of old live sh) (mkdir_at (limits_of old) live.world.tree path) (place_in (seen old.tx) old.keys old.charge path)
  same_place live sh = subst (λ c. SamePlace (seen old.tx) live.world.tree (stands_of old live sh) (mkdir_at (limits_of old) live.world.tree path) (place_in (seen old.tx) old.keys c path)) (sym sh.charged) (place_same (seen old.tx) live.world.tree (stands_of old live sh) (limits_of old) path)

  adds : (w : Where) → old.charge + 2 ≤ old.keys → place_in (seen old.tx) old.keys old.charge path ≡ Ok w → (live : Live) → ShowsLive old live → Adds old Dir (calls.Mkdir path) replies.Done old.files (spare old) w live
  adds w fits is live sh =
      let t = live.world.tree in
      let at = judged_ok live sh (mkdir_at (limits_of old) t path) (place_in (seen old.tx) old.keys old.charge path) w (same_place live sh) is in
      let free = free_place t at.0 w at.2 at.3 in
      record {
        place = at.0;
        spot = at.2;
        nothing = at.3;
        step_is = ap (λ (r : Result Place Errno). settled live.world (r >>= λ place. leaves live.world (with_new t place Dir) replies.Done)) at.1 ∙ (λ i. record { world = record { tree = with_new t at.0 Dir; desk = sh.desk i }; reply = replies.Done });
        weighs = refl;
        holds = new_holds t old.files at.0 Dir sh.tree (ap (number_at t) free.1 ∙ free.2.free) sh.holds;
        fits = fits;
      }

  pub mkdir_goes : (w : Where) → old.down ≡ None → old.tx.next + 1 < 2 ^ 63 → old.tx.changes + 1 < 2 ^ 63 → old.charge + 2 ≤ old.keys → place_in (seen old.tx) old.keys old.charge path ≡ Ok w
      → GoesOn old (lines.Call (calls.Mkdir path)) (answers.Reply replies.Done) (record old { tx = made old.tx (parent_of w) w.name; charge = old.charge + 2 })
  mkdir_goes w up low count fits is = add_goes old 1 Dir fresh_dir refl refl w low count (calls.Mkdir path) replies.Done old.files (spare old) (spare_free old) up (adds w fits is)

  pub mkdir_refused : (e : Errno) → old.down ≡ None → place_in (seen old.tx) old.keys old.charge path ≡ Err e → GoesOn old (lines.Call (calls.Mkdir path)) (answers.Reply (replies.Err e)) old
  mkdir_refused e up is = idle_goes old (calls.Mkdir path) (replies.Err e) up (λ w x. refl) refl (λ live sh.
      ap (λ (r : Result Place Errno). settled live.world (r >>= λ place. leaves live.world (with_new live.world.tree place Dir) replies.Done)) (judged_err live sh (mkdir_at (limits_of old) live.world.tree path) (place_in (seen old.tx) old.keys old.charge path) e (same_place live sh) is))

  pub mkdir_falls : (new : Volume) (w : Where) (fault : DeviceFault) → old.down ≡ None → new.down ≡ Some (cause_of fault) → limits_of new ≡ limits_of old → old.tx.next + 1 < 2 ^ 63 → old.tx.changes + 1 < 2 ^ 63 → old.charge + 2 ≤ old.keys → place_in (seen old.tx) old.keys old.charge path ≡ Ok w
      → MakeFault old.tx (parent_of w) w.name fault new.tx.machine → Refuses old (calls.Mkdir path) (Device fault) new
  mkdir_falls new w fault up down same low count fits is h =
      add_falls old 1 Dir fresh_dir refl refl w low count new (calls.Mkdir path) replies.Done old.files fault up down same (λ world cause. any_cause world (calls.Mkdir path) refl refl refl cause) (adds w fits is) h
