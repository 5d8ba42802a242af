-- One change, whichever call makes it: what the session shows after it, and where it fails.
use Rattle.std.proofs.Common.{◌≡◌, ℕ, ◌<◌, ◌≤◌, ◌+◌, ◌^◌, ◌||◌, true, false, cond, Bool, refl, sym, ◌∙◌, ap, subst, arith, Some, nat_le}
use Rattle.std.specs.FinMap as objects
use Rattle.std.proofs.lemmas.Bool.Decides.{nat_tests}
use Rattle.kfs_objects.specs.Keys.{super_key}
use Rattle.kfs_objects.specs.Records.{super_value}
use Rattle.kfs_model.specs.Tree.{Tree, charge, chunks, has_room, IsTree}
use Rattle.kfs_model.specs.Step.{World}
use Rattle.kfs_model.specs.Life.{Live, tree_at, with_tree, live_with}
use Rattle.kfs_shows.specs.Shows.{Shows, ShowsTree}
use Rattle.kfs_shows.proofs.Fresh.{with_super}
use Rattle.kfs_tx.specs.Tx.{Tx, IsReady, SameBounds, seen, changed_keys, committed, counted, one_change, is_full}
use Rattle.kfs_tx.proofs.Seeing.{ready_put, seen_put, keys_put, ready_committed, seen_committed, keys_committed}
use Rattle.kfs_posix.specs.Volume.{Volume, limits_of}
use Rattle.kfs_posix.specs.Opens.{Opens, desk_of}
use Rattle.kfs_posix.specs.Holding.{Holds}
use Rattle.kfs_posix.specs.Showing.{ShowsLive, IsWhole}
use Rattle.kfs_posix.proofs.Rooms.{named_fits}
use Rattle.kfs_posix.proofs.Past.{older, newest}

-- the objects of the change are put, and all else of the session is as before
pub record IsPut (b : Volume) (r : Tx) (t : Tree) (n next : ℕ) : Type 0 where
  pub ready : IsReady r
  pub tree : IsTree t
  pub shows : ShowsTree (seen r) t
  pub low : t.next < 2 ^ 63
  pub few_changes : r.changes + 1 < 2 ^ 63
  pub next_is : next ≡ t.next
  pub changes : r.changes ≡ b.tx.changes
  pub since : r.since ≡ b.tx.since
  pub weight : r.weight ≡ b.tx.weight
  pub stable : r.machine.stable ≡ b.tx.machine.stable
  pub bounds : SameBounds b.tx.machine r.machine
  pub few : changed_keys r + 1 ≤ b.tx.weight + n
  pub room : has_room (limits_of b) t ≡ true

pub or_false : (a b : Bool) → (a || b) ≡ false → (a ≡ false) × (b ≡ false)
or_false true b e = absurd (cc)
or_false false b e = (refl, e)

module _ (b : Volume) (live : Live) (sh : ShowsLive b live) (r : Tx) (t : Tree) (n next charged chunked : ℕ) (put : IsPut b r t n next) (charge_is : charged ≡ charge t) (chunks_is : chunked ≡ chunks t) (files : Opens) (holds : Holds files t) where
  abbrev world : World
  world = record { tree = t; desk = desk_of files }

  abbrev done : Tx
  done = counted r n next

  ready : IsReady done
  ready = let h = ready_put r super_key (super_value (r.changes + 1) next) put.ready in record { up = h.up; alone = h.alone }

  count_is : r.changes + 1 ≡ live.past.count + 1
  count_is = ap (λ k. k + 1) (put.changes ∙ sh.count)

  pub sees : Shows (seen done) t (live.past.count + 1)
  sees = subst (λ m. Shows m t (live.past.count + 1)) (sym (seen_put r super_key (super_value (r.changes + 1) next) put.ready ∙ (λ i. objects.insert (seen r) super_key (super_value (count_is i) (put.next_is i)))))
      (with_super (seen r) t (live.past.count + 1) put.shows)

  pub to_save : IsWhole (limits_of b) (seen done) t (live.past.count + 1)
  to_save = record { tree = put.tree; shows = sees; next = put.low; count = (let e = count_is in let h = put.few_changes in omega arith); room = named_fits (limits_of b) t put.room }

  few_keys : changed_keys done ≤ changed_keys r + 1
  few_keys = keys_put r super_key (super_value (r.changes + 1) next) put.ready

  between : is_full (r.since + 1) (r.weight + n) ≡ false → ShowsLive (record b { tx = done; charge = charged; chunks = chunked; files = files }) (live_with live world (Some n) false)
  between e = record {
    up = sh.up;
    tree = put.tree;
    low = put.low;
    few_changes = let e = count_is in let h = put.few_changes in omega arith;
    sees = sees;
    saved = subst (λ m. IsWhole (limits_of b) m (tree_at (with_tree live.past t) live.mark) live.mark) (sym put.stable) (subst (λ u. IsWhole (limits_of b) b.tx.machine.stable u live.mark) (sym (older live.past t live.mark sh.behind)) sh.saved);
    newest = newest live.past t;
    behind = let h = sh.behind in omega arith;
    desk = refl;
    holds = holds;
    count = count_is;
    next = put.next_is;
    changes = ap (λ k. k + 1) (put.since ∙ sh.changes);
    weight = ap (λ k. k + n) (put.weight ∙ sh.weight);
    light = record {
      ready = ready;
      light = let h = (or_false (nat_le 64 (r.since + 1)) (nat_le 256 (r.weight + n)) e).1 in grind (arith, nat_tests);
      few = let a = few_keys in let c = put.few in let w = put.weight in omega arith;
    };
    keys = sh.keys ∙ sym put.bounds.room_keys;
    pages = sh.pages ∙ sym put.bounds.room_pages;
    charged = charge_is;
    chunked = chunks_is;
    room = put.room;
  }

  at_boundary : ShowsLive (record b { tx = committed done; charge = charged; chunks = chunked; files = files }) (live_with live world (Some n) true)
  at_boundary = record {
    up = sh.up;
    tree = put.tree;
    low = put.low;
    few_changes = let e = count_is in let h = put.few_changes in omega arith;
    sees = subst (λ m. Shows m t (live.past.count + 1)) (sym (seen_committed done ready)) sees;
    saved = subst (λ u. IsWhole (limits_of b) (seen done) u (live.past.count + 1)) (sym (newest live.past t)) to_save;
    newest = newest live.past t;
    behind = omega arith;
    desk = refl;
    holds = holds;
    count = count_is;
    next = put.next_is;
    changes = refl;
    weight = refl;
    light = record { ready = ready_committed done ready; light = omega arith; few = let h = keys_committed done ready in omega arith };
    keys = sh.keys ∙ sym put.bounds.room_keys;
    pages = sh.pages ∙ sym put.bounds.room_pages;
    charged = charge_is;
    chunked = chunks_is;
    room = put.room;
  }

  pub change_shown : ShowsLive (record b { tx = one_change r n next; charge = charged; chunks = chunked; files = files }) (live_with live world (Some n) (is_full (b.tx.since + 1) (b.tx.weight + n)))
  change_shown = subst (λ f. ShowsLive (record b { tx = one_change r n next; charge = charged; chunks = chunked; files = files }) (live_with live world (Some n) f)) (λ i. is_full (put.since i + 1) (put.weight i + n)) (by (is_full (r.since + 1) (r.weight + n)) refl)
    where
      by : (f : Bool) → is_full (r.since + 1) (r.weight + n) ≡ f → ShowsLive (record b { tx = cond f (committed done) done; charge = charged; chunks = chunked; files = files }) (live_with live world (Some n) f)
      by true e = at_boundary
      by false e = between e
