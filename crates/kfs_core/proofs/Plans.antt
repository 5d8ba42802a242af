-- What a call that changes names or lengths is, before its change is counted: its step, its weight, and what the objects show.
use Rattle.std.proofs.Common.{◌≡◌, ℕ, ◌<◌, ◌≤◌, ◌+◌, ◌-◌, ◌^◌, ◌&&◌, true, false, Bool, refl, sym, ◌∙◌, ap, subst, arith, List, Option, Some, None, Result, Ok, Err, nat_le}
use Rattle.std.proofs.lemmas.Bool.{and_parts}
use Rattle.std.proofs.lemmas.Bool.Decides.{nat_tests}
use Rattle.kfs_path.specs.declared.call.Call.{Call}
use Rattle.kfs_path.specs.declared.call.Call.TheVariants as calls
use Rattle.kfs_path.specs.declared.call.Errno.{Errno}
use Rattle.kfs_path.specs.declared.call.Reply.TheVariants as replies
use Rattle.kfs_model.specs.declared.Node.{Node}
use Rattle.kfs_model.specs.declared.Node.TheVariants.{Dir, File}
use Rattle.kfs_model.specs.Ladder.{◌>>=◌}
use Rattle.kfs_model.specs.Tree.{Tree, Place, Limits, charge, chunks, has_room, without_place, renamed, IsNameless, node_of}
use Rattle.kfs_model.specs.Desk.{Desk, is_open}
use Rattle.kfs_model.specs.Step.{World, Route, syntax, step, settled, swept, unlink, rmdir_at, rename, leaves_swept}
use Rattle.kfs_model.specs.Change.{weight}
use Rattle.kfs_shows.specs.Sweeping.{ShowsWorld, OpenBut, Frees, with_tree}
use Rattle.kfs_tx.specs.Tx.{Tx, IsReady, seen, changed_keys, deleted_in}
use Rattle.kfs_file.specs.Contents.{pending_of}
use Rattle.kfs_objects.specs.Keys.{orphan_key}
use Rattle.kfs_core.specs.Stands.{Stands}
use Rattle.kfs_core.specs.Flat.{inode_in}
use Rattle.kfs_core.proofs.Pieces.{ok_is}
use Rattle.kfs_core.specs.Room.{chunks_for}
use Rattle.kfs_core.specs.Removing.{Leaf, Goes, Unnames, chunks_gone, keys_gone, unlink_in, rmdir_in, release_at}
use Rattle.kfs_core.specs.Renaming.{Move, Replaces, with_moved, chunks_replaced, keys_replaced, rename_in}
use Rattle.kfs_core.proofs.Ways.{kind_of}
use Rattle.kfs_core.proofs.FileEffects.{SameNumbers}
use Rattle.kfs_core.proofs.Ladders.{of_ok, of_err}
use Rattle.kfs_core.proofs.RemovingJudges.{IsLeaf, UnlinksLeaf, unlink_same, RemovesLeaf, rmdir_same}
use Rattle.kfs_core.proofs.RenamingJudges.{IsMove, IsOver, MovesPath, rename_same}
use Rattle.kfs_core.proofs.RemovingEffects.{LeavesWorld, unnames_leaves, moves_leaves, releases_leaves}
use Rattle.kfs_core.proofs.CuttingJudges.{release_finds}
use Rattle.kfs_core.proofs.Weights.{unlink_weight, close_weight, no_chunks, moves_left, rename_weight, rename_stays}

-- a change that is put but not counted yet, with the open files after the call: n is its weight, c and p what is taken of the keys and pages then
pub record Plan (r mid : Tx) (k : Limits) (w : World) (desk_after : Desk) (call : Call) (n c p : ℕ) : Type 0 where
  pub world : World
  pub steps : (d : ℕ) → step k d w call ≡ record { world = world; reply = replies.Done }
  pub weighs : weight w call (record { world = world; reply = replies.Done }) ≡ Some n
  pub numbers : SameNumbers r mid
  pub ready : IsReady mid
  pub few : changed_keys mid + 1 ≤ changed_keys r + n
  pub light : n ≤ 260
  pub shows : ShowsWorld (seen mid) world
  pub desk : world.desk ≡ desk_after
  pub next : world.tree.next ≡ w.tree.next
  pub charged : c ≡ charge world.tree
  pub chunked : p ≡ chunks world.tree
  pub room : has_room k world.tree ≡ true

-- where only the pending changes differ, no number does
pub numbers_of : (old new : Tx) → new ≡ pending_of new old → SameNumbers old new
numbers_of old new e = record {
  changes = ap (λ (r : Tx). r.changes) e;
  next = ap (λ (r : Tx). r.next) e;
  since = ap (λ (r : Tx). r.since) e;
  weight = ap (λ (r : Tx). r.weight) e;
  up = ap (λ (r : Tx). r.machine.up) e;
  stable = ap (λ (r : Tx). r.machine.stable) e;
  cuts = ap (λ (r : Tx). r.machine.cuts) e;
  faults = ap (λ (r : Tx). r.machine.faults) e;
  bounds = record {
    most_cuts = ap (λ (r : Tx). r.machine.most_cuts) e;
    most_faults = ap (λ (r : Tx). r.machine.most_faults) e;
    room_keys = ap (λ (r : Tx). r.machine.room_keys) e;
    room_pages = ap (λ (r : Tx). r.machine.room_pages) e;
  };
}

-- a smaller tree has room where a larger one has
pub room_left : (k : Limits) (t u : Tree) (keys pages : ℕ) → Frees t u keys pages → has_room k t ≡ true → has_room k u ≡ true
room_left k t u keys pages frees room =
    let h = and_parts (nat_le (charge t) k.keys) (nat_le (chunks t) k.pages) room in
    let a = frees.keys in
    let b = frees.pages in
    let x = h.0 in
    let y = h.1 in
    let f : nat_le (charge u) k.keys ≡ true = grind (arith, nat_tests) in
    let g : nat_le (chunks u) k.pages ≡ true = grind (arith, nat_tests) in
    λ i. f i && g i

module _ (r : Tx) (ready : IsReady r) (k : Limits) (w : World) (sh : ShowsWorld (seen r) w) (low : w.tree.next ≤ 2 ^ 63) (room : has_room k w.tree ≡ true)
    (charged chunked : ℕ) (charge_was : charged ≡ charge w.tree) (chunks_was : chunked ≡ chunks w.tree) where
  stands : Stands (seen r) w.tree
  stands = record { tree = sh.tree; shows = sh.shows; low = low }

  -- no node has more than 256 chunks
  pub leaf_light : (place : Place) (leaf : Leaf) → IsLeaf w.tree place leaf → (now : Bool) → 4 + chunks_gone leaf now ≤ 260
  leaf_light place leaf is true = omega arith
  leaf_light place leaf is false = by is.node is.there is.size
    where
      by : (x : Node) → node_of w.tree leaf.node ≡ Some x → leaf.size ≡ (kind_of x).1 → 4 + chunks_for leaf.size ≤ 260
      by Dir e size = omega arith
      by (File bytes) e size = let h = sh.tree.lengths leaf.node bytes e in omega arith

  pub move_light : (p q : Place) (move : Move) → IsMove w.tree p q move → (open_now : ℕ → Bool) → 4 + chunks_replaced move.replaced open_now ≤ 260
  move_light p q move is open_now = by move.replaced is.over
    where
      by : (o : Option Leaf) → IsOver w.tree q move.new_parent move.new_name o → 4 + chunks_replaced o open_now ≤ 260
      by None over = omega arith
      by (Some leaf) over = leaf_light q leaf over.0 (open_now leaf.node)

  -- a plan from what the objects show
  plan_of : (mid : Tx) (call : Call) (u : World) (changed n keys pages : ℕ) → LeavesWorld r mid w.tree u changed keys pages → changed + 1 ≤ n → n ≤ 260 → u.desk ≡ w.desk → u.tree.next ≡ w.tree.next
      → ((d : ℕ) → step k d w call ≡ record { world = u; reply = replies.Done }) → weight w call (record { world = u; reply = replies.Done }) ≡ Some n → Plan r mid k w w.desk call n (charged - keys) (chunked - pages)
  plan_of mid call u changed n keys pages leaves within light desk next steps weighs =
      let few = leaves.rests.few ready in
      let a = leaves.frees.keys in
      let b = leaves.frees.pages in
      record {
        world = u;
        steps = steps;
        weighs = weighs;
        numbers = numbers_of r mid leaves.rests.same;
        ready = leaves.rests.ready ready;
        few = omega arith;
        light = light;
        shows = leaves.shows;
        desk = desk;
        next = next;
        charged = omega arith;
        chunked = omega arith;
        room = room_left k w.tree u.tree keys pages leaves.frees room;
      }

  module _ (open_now : ℕ → Bool) (opened : (n : ℕ) → n < 2 ^ 64 → open_now n ≡ is_open w.desk n) where
    leaf_open : (place : Place) (leaf : Leaf) → IsLeaf w.tree place leaf → open_now leaf.node ≡ is_open w.desk leaf.node
    leaf_open place leaf is = let h = (sh.tree.numbers leaf.node is.node is.there).1 in opened leaf.node (omega arith)

    -- ---- unlink

    pub unlink_plan : (path : List ℕ) (route : Route) → syntax path ≡ Ok route → (leaf : Leaf) → unlink_in (seen r) route ≡ Ok leaf → (mid : Tx) → Unnames r leaf (open_now leaf.node) mid
        → Plan r mid k w w.desk (calls.Unlink path) (4 + chunks_gone leaf (open_now leaf.node)) (charged - keys_gone leaf (open_now leaf.node)) (chunked - chunks_gone leaf (open_now leaf.node))
    unlink_plan path route read leaf is mid does =
        let it = of_ok (UnlinksLeaf (seen r) w.tree stands w.desk) (unlink w path) (unlink_in (seen r) route) leaf (unlink_same (seen r) w.tree stands w.desk path route read) is in
        let place = it.2.0 in
        let u = swept (with_tree w (without_place w.tree place)) in
        let leaves = unnames_leaves r ready w sh low place leaf it.2.1 (open_now leaf.node) (leaf_open place leaf it.2.1) mid does in
        plan_of mid (calls.Unlink path) u (2 + chunks_gone leaf (open_now leaf.node)) (4 + chunks_gone leaf (open_now leaf.node)) (keys_gone leaf (open_now leaf.node)) (chunks_gone leaf (open_now leaf.node)) leaves (omega arith) (leaf_light place leaf it.2.1 (open_now leaf.node)) refl refl
        (λ d. ap (settled w) it.1 ∙ it.2.2)
        (unlink_weight w u path (keys_gone leaf (open_now leaf.node)) (chunks_gone leaf (open_now leaf.node)) leaves.frees)

    -- ---- rmdir

    pub rmdir_plan : (path : List ℕ) (route : Route) → syntax path ≡ Ok route → (leaf : Leaf) → rmdir_in (seen r) route ≡ Ok leaf → (mid : Tx) → Unnames r leaf (open_now leaf.node) mid
        → Plan r mid k w w.desk (calls.Rmdir path) (4 + chunks_gone leaf (open_now leaf.node)) (charged - keys_gone leaf (open_now leaf.node)) (chunked - chunks_gone leaf (open_now leaf.node))
    rmdir_plan path route read leaf is mid does =
        let it = of_ok (RemovesLeaf (seen r) w.tree stands) (rmdir_at w.tree path) (rmdir_in (seen r) route) leaf (rmdir_same (seen r) w.tree stands path route read) is in
        let place = it.0 in
        let u = swept (with_tree w (without_place w.tree place)) in
        let leaves = unnames_leaves r ready w sh low place leaf it.2.0 (open_now leaf.node) (leaf_open place leaf it.2.0) mid does in
        plan_of mid (calls.Rmdir path) u (2 + chunks_gone leaf (open_now leaf.node)) (4 + chunks_gone leaf (open_now leaf.node)) (keys_gone leaf (open_now leaf.node)) (chunks_gone leaf (open_now leaf.node)) leaves (omega arith) (leaf_light place leaf it.2.0 (open_now leaf.node)) refl refl
        (λ d. ap (λ (x : Result Place Errno). settled w (x >>= λ place. leaves_swept w (without_place w.tree place) replies.Done)) it.1)
        (ap (λ n. Some (4 + n)) (sym (no_chunks leaf (open_now leaf.node) it.2.1)))

    -- ---- rename

    replaced_open : (p q : Place) (move : Move) → IsMove w.tree p q move → (leaf : Leaf) → move.replaced ≡ Some leaf → open_now leaf.node ≡ is_open w.desk leaf.node
    replaced_open p q move is leaf e = let over = subst (IsOver w.tree q move.new_parent move.new_name) e is.over in leaf_open q leaf over.0

    pub rename_plan : (old new : List ℕ) (from to : Route) → syntax old ≡ Ok from → syntax new ≡ Ok to → (move : Move) → rename_in (seen r) from to ≡ Ok (Some move) → (mid : Tx) → Replaces r move.replaced open_now mid
        → Plan r (with_moved mid move) k w w.desk (calls.Rename old new) (4 + chunks_replaced move.replaced open_now) (charged - keys_replaced move.replaced open_now) (chunked - chunks_replaced move.replaced open_now)
    rename_plan old new from to read_old read_new move is mid does =
        let it = of_ok (MovesPath (seen r) w.tree stands w.desk old) (rename w old new) (rename_in (seen r) from to) (Some move) (rename_same (seen r) w.tree stands w.desk old new from to read_old read_new) is in
        let p = it.2.0 in
        let q = it.2.1 in
        let u = swept (with_tree w (renamed (without_place w.tree q) p q)) in
        let leaves = moves_leaves r ready w sh low p q move it.2.2 open_now (replaced_open p q move it.2.2) mid does in
        plan_of (with_moved mid move) (calls.Rename old new) u (3 + chunks_replaced move.replaced open_now) (4 + chunks_replaced move.replaced open_now) (keys_replaced move.replaced open_now) (chunks_replaced move.replaced open_now) leaves (omega arith) (move_light p q move it.2.2 open_now) refl refl
        (λ d. ap (settled w) it.1 ∙ it.2.4)
        (rename_weight w u old new (keys_replaced move.replaced open_now) (chunks_replaced move.replaced open_now) (moves_left w sh.tree p q move it.2.2 old it.2.3) leaves.frees)

  -- where both paths name one place nothing changes, and that is no change
  pub rename_rests : (old new : List ℕ) (from to : Route) → syntax old ≡ Ok from → syntax new ≡ Ok to → rename_in (seen r) from to ≡ Ok None
      → ((d : ℕ) → step k d w (calls.Rename old new) ≡ record { world = w; reply = replies.Done }) × (weight w (calls.Rename old new) (record { world = w; reply = replies.Done }) ≡ None)
  rename_rests old new from to read_old read_new is =
      let it = of_ok (MovesPath (seen r) w.tree stands w.desk old) (rename w old new) (rename_in (seen r) from to) None (rename_same (seen r) w.tree stands w.desk old new from to read_old read_new) is in
      (λ d. ap (settled w) it.1 ∙ it.2, rename_stays w old new)

  -- ---- a last close

  -- a node without a name goes with the last description that has it
  pub release_plan : (fd : ℕ) (desk : Desk) → ((d : ℕ) → step k d w (calls.Close fd) ≡ record { world = swept (record { tree = w.tree; desk = desk }); reply = replies.Done })
      → (n : ℕ) (node : Node) → node_of w.tree n ≡ Some node → IsNameless w.tree n → OpenBut (record { tree = w.tree; desk = desk }) n → is_open desk n ≡ false
      → (size : ℕ) → release_at (inode_in (seen r) n) ≡ Ok size → (mid : Tx) → Goes r n size mid
      → Plan r (deleted_in mid (orphan_key n)) k w desk (calls.Close fd) (4 + chunks_for size) (charged - (2 + chunks_for size)) (chunked - chunks_for size)
  release_plan fd desk steps n node there none but shut size judged mid goes =
      let left : World = record { tree = w.tree; desk = desk } in
      let size_is : size ≡ (kind_of node).1 = ok_is size (kind_of node).1 (sym judged ∙ release_finds (seen r) w.tree stands n node there) in
      let leaves = releases_leaves r ready left sh.tree sh.shows low n node there none but shut size size_is mid goes in
      let few = leaves.rests.few ready in
      let a = leaves.frees.keys in
      let b = leaves.frees.pages in
      record {
        world = swept left;
        steps = steps;
        weighs = close_weight w (swept left) fd (chunks_for size) leaves.frees;
        numbers = numbers_of r (deleted_in mid (orphan_key n)) leaves.rests.same;
        ready = leaves.rests.ready ready;
        few = omega arith;
        light = light node there size_is;
        shows = leaves.shows;
        desk = refl;
        next = refl;
        charged = omega arith;
        chunked = omega arith;
        room = room_left k w.tree (swept left).tree (2 + chunks_for size) (chunks_for size) leaves.frees room;
      }
    where
      light : (x : Node) → node_of w.tree n ≡ Some x → size ≡ (kind_of x).1 → 4 + chunks_for size ≤ 260
      light Dir e is = omega arith
      light (File bytes) e is = let h = sh.tree.lengths n bytes e in omega arith

  -- ---- refusals

  pub unlink_refused : (path : List ℕ) (route : Route) → syntax path ≡ Ok route → (e : Errno) → unlink_in (seen r) route ≡ Err e → (d : ℕ) → step k d w (calls.Unlink path) ≡ record { world = w; reply = replies.Err e }
  unlink_refused path route read e is d = ap (settled w) (of_err (UnlinksLeaf (seen r) w.tree stands w.desk) (unlink w path) (unlink_in (seen r) route) e (unlink_same (seen r) w.tree stands w.desk path route read) is)

  pub rmdir_refused : (path : List ℕ) (route : Route) → syntax path ≡ Ok route → (e : Errno) → rmdir_in (seen r) route ≡ Err e → (d : ℕ) → step k d w (calls.Rmdir path) ≡ record { world = w; reply = replies.Err e }
  rmdir_refused path route read e is d =
      ap (λ (x : Result Place Errno). settled w (x >>= λ place. leaves_swept w (without_place w.tree place) replies.Done))
      (of_err (RemovesLeaf (seen r) w.tree stands) (rmdir_at w.tree path) (rmdir_in (seen r) route) e (rmdir_same (seen r) w.tree stands path route read) is)

  pub rename_refused : (old new : List ℕ) (from to : Route) → syntax old ≡ Ok from → syntax new ≡ Ok to → (e : Errno) → rename_in (seen r) from to ≡ Err e → (d : ℕ) → step k d w (calls.Rename old new) ≡ record { world = w; reply = replies.Err e }
  rename_refused old new from to read_old read_new e is d =
      ap (settled w) (of_err (MovesPath (seen r) w.tree stands w.desk old) (rename w old new) (rename_in (seen r) from to) e (rename_same (seen r) w.tree stands w.desk old new from to read_old read_new) is)
