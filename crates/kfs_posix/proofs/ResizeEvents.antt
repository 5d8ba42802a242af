-- `ftruncate` and `truncate` of a session in the tree that is shown.
use Rattle.std.proofs.Common.{◌≡◌, ℕ, ◌==◌, inl, inr, true, false, Bool, refl, sym, ◌∙◌, ap, subst, List, length, Option, Some, None, Result, Ok, Err, ℤ}
use Rattle.std.specs.Prelude.{pos, negsuc}
use Rattle.std.specs.Option.{option_map}
use Rattle.kv_device.specs.Objects.{Objects}
use Rattle.kfs_path.specs.declared.call.Call.{Call}
use Rattle.kfs_path.specs.declared.call.Call.TheVariants as calls
use Rattle.kfs_path.specs.declared.call.Cause.{Cause}
use Rattle.kfs_path.specs.declared.call.Errno.{Errno}
use Rattle.kfs_path.specs.declared.call.Errno.TheVariants.{EINVAL, EISDIR, ENOTDIR}
use Rattle.kfs_path.specs.declared.call.Reply.{Reply}
use Rattle.kfs_path.specs.declared.call.Reply.TheVariants as replies
use Rattle.kfs_model.specs.declared.Description.{Description}
use Rattle.kfs_model.specs.declared.Node.TheVariants.{File}
use Rattle.kfs_model.specs.Ladder.{◌>>=◌, ◌>>◌, ◌when◌}
use Rattle.kfs_model.specs.Tree.{Tree, node_of, with_node, resized, has_room}
use Rattle.kfs_model.specs.Desk.{Desk, opened}
use Rattle.kfs_model.specs.Step.{World, After, settled, step, content, is_negative, natural, changes_tree, lengthened, Route, syntax, truncate}
use Rattle.kfs_model.specs.Change.{weight, resizing, commits, node_resizing, node_open}
use Rattle.kfs_model.specs.Life.{Live, can_fail}
use Rattle.kfs_laws.proofs.Lookups.{number_put}
use Rattle.kfs_file.proofs.Resizing.{length_resized}
use Rattle.kfs_tx.specs.Tx.{seen}
use Rattle.kfs_core.specs.declared.room.Space.{Space}
use Rattle.kfs_core.specs.Flat.{reach_in}
use Rattle.kfs_core.specs.Resizing.{resize_in}
use Rattle.kfs_core.proofs.Ladders.{of_ok, of_err}
use Rattle.kfs_core.proofs.CuttingJudges.{CutsTree, cut_in, truncate_in, truncate_same}
use Rattle.kfs_core.proofs.ResizingJudges.{ResizesTree, resize_same}
use Rattle.kfs_posix.specs.declared.open_files.OpenFile.{OpenFile}
use Rattle.kfs_posix.specs.Opens.{Opens, open_at, desk_of, relengthed}
use Rattle.kfs_posix.specs.Holding.{Holds}
use Rattle.kfs_posix.specs.Writing.{writable_in, writable_at}
use Rattle.kfs_posix.specs.Resizing.{resize_node, ftruncate_in, file_found, named_file_in, truncate_by}
use Rattle.kfs_posix.specs.Volume.{Volume, limits_of}
use Rattle.kfs_posix.specs.Showing.{ShowsLive}
use Rattle.kfs_posix.proofs.Held.{world_in, described, opened_same, file_is}
use Rattle.kfs_posix.proofs.Going.{spare}
use Rattle.kfs_posix.proofs.Calls.{stands_of, any_cause}
use Rattle.kfs_posix.proofs.ReadGoes.{parted, file_bytes, as_described}
use Rattle.kfs_posix.proofs.UnnameGoes.{ok_bind, err_bind}
use Rattle.kfs_posix.proofs.WriteJudges.{writable_same, writable_is, relengthed_desk, relengthed_holds}
use Rattle.kfs_posix.proofs.WriteEvents.{looked_up, space_of, space_is}
use Rattle.kfs_posix.proofs.ResizeGoes.{Lengthens}

-- a call that gives the file that it judged a length
pub record IsResizing (old : Volume) (call : Call) (judge : Result (ℕ × ℕ) Errno) (size : ℕ) : Type 0 where
  pub does : (live : Live) → ShowsLive old live → (it : ℕ × ℕ) → judge ≡ Ok it → Lengthens old it.0 it.1 size call replies.Done (relengthed old.files it.0 size) (spare old) live
  pub refused : (live : Live) → ShowsLive old live → (e : Errno) → judge ≡ Err e → step (limits_of old) (spare old) live.world call ≡ record { world = live.world; reply = replies.Err e }
  pub weightless : (e : Errno) (w x : World) → weight w call (record { world = x; reply = replies.Err e }) ≡ None
  pub quiet : (reply : Reply) → commits call reply ≡ false
  pub can : (w : World) (cause : Cause) → can_fail w call cause ≡ true

content_of : (t : Tree) (n : ℕ) (bytes : List ℕ) → node_of t n ≡ Some (File bytes) → content t n ≡ bytes
content_of t n bytes e = rw e refl

-- the weight of a new length, by the lengths
pub length_weighs : (t : Tree) (n : ℕ) (bytes : List ℕ) (was size : ℕ) → node_of t n ≡ Some (File bytes) → was ≡ length bytes → resizing (length (content t n)) (length (content (with_node t n (File (resized bytes size))) n)) ≡ resizing was size
length_weighs t n bytes was size file was_is =
    let here : node_of (with_node t n (File (resized bytes size))) n ≡ Some (File (resized bytes size)) = number_put n (File (resized bytes size)) t.nodes in
    let before : length (content t n) ≡ was = ap length (content_of t n bytes file) ∙ sym was_is in
    let after : length (content (with_node t n (File (resized bytes size))) n) ≡ size = ap length (content_of (with_node t n (File (resized bytes size))) n (resized bytes size) here) ∙ length_resized bytes size in
    λ i. resizing (before i) (after i)

-- what the open files know then
pub length_holds : (t : Tree) (o : Opens) (n : ℕ) (bytes : List ℕ) (size : ℕ) → node_of t n ≡ Some (File bytes) → Holds o t → Holds (relengthed o n size) (with_node t n (File (resized bytes size)))
length_holds t o n bytes size file holds = subst (λ l. Holds (relengthed o n l) (with_node t n (File (resized bytes size)))) (length_resized bytes size) (relengthed_holds t o n bytes (resized bytes size) file holds)

-- the file and its length, by the judge
node_judged : (old : Volume) (n size : ℕ) (it : ℕ × ℕ) → resize_node (seen old.tx) (space_of old) n size ≡ Ok it → (n ≡ it.0) × (resize_in (seen old.tx) (space_of old) n size ≡ Ok it.1)
node_judged old n size it e =
    let x = ok_bind (resize_in (seen old.tx) (space_of old) n size) (λ was. Ok (n, was)) it e in
    let same : (n, x.0) ≡ it = cc in
    (ap (λ (q : ℕ × ℕ). q.0) same, x.1 ∙ ap (λ (q : ℕ × ℕ). Ok q.1) same)

-- ---- ftruncate

module _ (old : Volume) (fd : ℕ) (size : ℤ) where
  abbrev o : Opens
  o = old.files

  abbrev call : Call
  call = calls.Ftruncate fd size

  abbrev judge : Result (ℕ × ℕ) Errno
  judge = ftruncate_in (seen old.tx) (space_of old) o fd size

  -- what a description that may write gets
  abbrev cut : Tree → ℕ × Description → Result Tree Errno
  cut t it = (EINVAL when is_negative size) >> lengthened (limits_of old) t it.1.node size

  stepped : (live : Live) (sh : ShowsLive old live) → step (limits_of old) (spare old) live.world call ≡ settled (world_in live.world.tree o) (changes_tree (world_in live.world.tree o) (as_described (writable_in o fd) >>= cut live.world.tree))
  stepped live sh =
      let t = live.world.tree in
      let w = world_in t o in
      (λ i. step (limits_of old) (spare old) (record { tree = t; desk = sh.desk i }) call)
      ∙ ap (λ r. settled w (changes_tree w r)) (looked_up (opened w.desk fd) (cut t))
      ∙ ap (λ x. settled w (changes_tree w (x >>= cut t))) (writable_same t o fd)

  abbrev settles : Live → Result Tree Errno → After
  settles live r = settled (world_in live.world.tree o) (changes_tree (world_in live.world.tree o) r)

  as_it_was : (live : Live) (sh : ShowsLive old live) (e : Errno) → settles live (Err e) ≡ record { world = live.world; reply = replies.Err e }
  as_it_was live sh e = λ i. record { world = record { tree = live.world.tree; desk = sym sh.desk i }; reply = replies.Err e }

  -- the bytes of a file that is open for writing
  bytes_in : (live : Live) → ShowsLive old live → (it : ℕ × OpenFile) → writable_in o fd ≡ Ok it → (bytes : List ℕ) × (node_of live.world.tree it.1.it.node ≡ Some (File bytes))
  bytes_in live sh it is =
      let may = writable_is o fd it is in
      let knows = sh.holds.known it.0 it.1 (file_is o fd it may.0) in
      file_bytes live.world.tree it.1 knows (knows.writes may.1)

  refused_at : (live : Live) (sh : ShowsLive old live) (e : Errno) → judge ≡ Err e → step (limits_of old) (spare old) live.world call ≡ record { world = live.world; reply = replies.Err e }
  refused_at live sh e is = stepped live sh ∙ ap (settles live) (by (writable_in o fd) refl (is_negative size) is) ∙ as_it_was live sh e
    where
      by : (r : Result (ℕ × OpenFile) Errno) → writable_in o fd ≡ r → (b : Bool) → ((r >>= λ it. (EINVAL when b) >> Ok it) >>= λ it. resize_node (seen old.tx) (space_of old) it.1.it.node (natural size)) ≡ Err e
          → (as_described r >>= λ it. (EINVAL when b) >> lengthened (limits_of old) live.world.tree it.1.node size) ≡ Err e
      by (Err f) w b h = let same : f ≡ e = cc in ap Err same
      by (Ok it) w true h = let same : EINVAL ≡ e = cc in ap Err same
      by (Ok it) w false h =
          let t = live.world.tree in
          let n = it.1.it.node in
          let stands = stands_of old live sh in
          let f = bytes_in live sh it w in
          elim (err_bind (resize_in (seen old.tx) (space_of old) n (natural size)) (λ was. Ok (n, was)) e h) [
            | inl denied ↦ of_err (ResizesTree (seen old.tx) t stands n f.0 f.1 (limits_of old) (natural size)) (lengthened (limits_of old) t n size) (resize_in (seen old.tx) (space_of old) n (natural size)) e (resize_same (seen old.tx) t stands n f.0 f.1 (limits_of old) (space_of old) (natural size) (space_is old live sh)) denied
            | inr x ↦ absurd (let bad = x.2 in cc)
          ]

  opened_is : (live : Live) (sh : ShowsLive old live) (it : ℕ × OpenFile) → open_at o fd ≡ Some it → node_open live.world.desk fd ≡ Some it.1.it.node
  opened_is live sh it e =
      ap (λ (desk : Desk). node_open desk fd) sh.desk
      ∙ ap (option_map {U = ℕ} (λ (x : ℕ × Description). x.1.node)) (opened_same o fd ∙ ap (option_map described) e)

  lengthens : (live : Live) (sh : ShowsLive old live) (got : ℕ × ℕ) → judge ≡ Ok got → Lengthens old got.0 got.1 (natural size) call replies.Done (relengthed o got.0 (natural size)) (spare old) live
  lengthens live sh got is =
      let t = live.world.tree in
      let s = natural size in
      let a = ok_bind (writable_at o fd size) (λ it. resize_node (seen old.tx) (space_of old) it.1.it.node s) got is in
      let p = parted (writable_in o fd) (is_negative size) a.0 a.1 in
      let j = node_judged old a.0.1.it.node s got a.2 in
      subst (λ n. Lengthens old n got.1 s call replies.Done (relengthed o n s) (spare old) live) j.0 (by a.0 p.0 p.1 j.1)
    where
      by : (it : ℕ × OpenFile) → writable_in o fd ≡ Ok it → is_negative size ≡ false → resize_in (seen old.tx) (space_of old) it.1.it.node (natural size) ≡ Ok got.1
          → Lengthens old it.1.it.node got.1 (natural size) call replies.Done (relengthed o it.1.it.node (natural size)) (spare old) live
      by it w plain judged =
          let t = live.world.tree in
          let n = it.1.it.node in
          let s = natural size in
          let stands = stands_of old live sh in
          let f = bytes_in live sh it w in
          let may = writable_is o fd it w in
          let u = of_ok (ResizesTree (seen old.tx) t stands n f.0 f.1 (limits_of old) s) (lengthened (limits_of old) t n size) (resize_in (seen old.tx) (space_of old) n s) got.1 (resize_same (seen old.tx) t stands n f.0 f.1 (limits_of old) (space_of old) s (space_is old live sh)) judged in
          let tree_is : u.0 ≡ with_node t n (File (resized f.0 s)) = u.2.0 in
          record {
            bytes = f.0;
            file = f.1;
            was_is = u.2.1;
            step_is = stepped live sh
                ∙ ap (λ r. settles live (as_described r >>= cut t)) w
                ∙ (λ i. settles live ((EINVAL when plain i) >> u.1 i))
                ∙ (λ i. record { world = record { tree = tree_is i; desk = sym (relengthed_desk o n s) i }; reply = replies.Done });
            weighs = ap (node_resizing live.world (record { world = record { tree = with_node t n (File (resized f.0 s)); desk = desk_of (relengthed o n s) }; reply = replies.Done })) (opened_is live sh it may.0)
                ∙ length_weighs t n f.0 got.1 s f.1 u.2.1;
            holds = length_holds t o n f.0 s f.1 sh.holds;
            short = u.2.3;
            room = subst (λ x. has_room (limits_of old) x ≡ true) tree_is u.2.2;
          }

  pub ftruncate_resizing : IsResizing old (calls.Ftruncate fd size) (ftruncate_in (seen old.tx) (space_of old) old.files fd size) (natural size)
  ftruncate_resizing = record {
    does = lengthens;
    refused = refused_at;
    weightless = λ e w x. refl;
    quiet = λ reply. refl;
    can = λ w cause. any_cause w call refl refl refl cause;
  }

-- ---- truncate

-- the parts of the judge, put together
split : (m : Objects) (space : Space) (route : Route) (size : ℕ) → (named_file_in m route >>= λ n. resize_node m space n size) ≡ truncate_in m space route size
split m space route size = by (reach_in m route)
  where
    last : (n : ℕ) (a b : Bool) → (((EISDIR when a) >> ((ENOTDIR when b) >> Ok n)) >>= λ n. resize_node m space n size) ≡ ((EISDIR when a) >> ((ENOTDIR when b) >> resize_node m space n size))
    last n true b = refl
    last n false true = refl
    last n false false = refl

    by : (r : Result (Option (ℕ × ℕ × ℕ)) Errno) → ((r >>= λ found. file_found found route.trailing) >>= λ n. resize_node m space n size) ≡ (r >>= cut_in m space route.trailing size)
    by (Err e) = refl
    by (Ok None) = refl
    by (Ok (Some (n, kind, was))) = last n (kind == 1) route.trailing

module _ (old : Volume) (path : List ℕ) where
  abbrev judge_by : ℤ → Result (ℕ × ℕ) Errno
  judge_by size = truncate_by (seen old.tx) (space_of old) path size

  denied : (live : Live) (sh : ShowsLive old live) (size : ℤ) (e : Errno) → judge_by size ≡ Err e → step (limits_of old) (spare old) live.world (calls.Truncate path size) ≡ record { world = live.world; reply = replies.Err e }
  denied live sh (negsuc size) e is = let same : EINVAL ≡ e = cc in ap (λ e. record { world = live.world; reply = replies.Err e }) same
  denied live sh (pos size) e is = elim (err_bind (syntax path) (λ route. named_file_in (seen old.tx) route >>= λ n. resize_node (seen old.tx) (space_of old) n size) e is) [
    | inl none ↦ rw none refl
    | inr x ↦
        let t = live.world.tree in
        let m = seen old.tx in
        let stands = stands_of old live sh in
        ap (λ (r : Result Tree Errno). settled live.world (changes_tree live.world r))
        (of_err (CutsTree m t stands (limits_of old) path size) (truncate (limits_of old) t path (pos size)) (truncate_in m (space_of old) x.0 size) e (truncate_same m t stands (limits_of old) (space_of old) (space_is old live sh) path x.0 x.1 size) (sym (split m (space_of old) x.0 size) ∙ x.2))
  ]

  cuts : (live : Live) (sh : ShowsLive old live) (size : ℤ) (got : ℕ × ℕ) → judge_by size ≡ Ok got → Lengthens old got.0 got.1 (natural size) (calls.Truncate path size) replies.Done (relengthed old.files got.0 (natural size)) (spare old) live
  cuts live sh (negsuc size) got is = absurd (cc)
  cuts live sh (pos size) got is =
      let t = live.world.tree in
      let m = seen old.tx in
      let o = old.files in
      let n = got.0 in
      let stands = stands_of old live sh in
      let x = ok_bind (syntax path) (λ route. named_file_in m route >>= λ n. resize_node m (space_of old) n size) got is in
      let u = of_ok (CutsTree m t stands (limits_of old) path size) (truncate (limits_of old) t path (pos size)) (truncate_in m (space_of old) x.0 size) got (truncate_same m t stands (limits_of old) (space_of old) (space_is old live sh) path x.0 x.1 size) (sym (split m (space_of old) x.0 size) ∙ x.2) in
      let cut = u.2 in
      let tree_is : u.0 ≡ with_node t n (File (resized cut.0 size)) = cut.3 in
      let desk_is : live.world.desk ≡ desk_of (relengthed o n size) = sh.desk ∙ sym (relengthed_desk o n size) in
      record {
        bytes = cut.0;
        file = cut.1;
        was_is = cut.4;
        step_is = ap (λ (r : Result Tree Errno). settled live.world (changes_tree live.world r)) u.1 ∙ (λ i. record { world = record { tree = tree_is i; desk = desk_is i }; reply = replies.Done });
        weighs = ap (node_resizing live.world (record { world = record { tree = with_node t n (File (resized cut.0 size)); desk = desk_of (relengthed o n size) }; reply = replies.Done })) cut.2
            ∙ length_weighs t n cut.0 got.1 size cut.1 cut.4;
        holds = length_holds t o n cut.0 size cut.1 sh.holds;
        short = cut.6;
        room = subst (λ x. has_room (limits_of old) x ≡ true) tree_is cut.5;
      }

  pub truncate_resizing : (size : ℤ) → IsResizing old (calls.Truncate path size) (truncate_by (seen old.tx) (space_of old) path size) (natural size)
  truncate_resizing size = record {
    does = λ live sh got is. cuts live sh size got is;
    refused = λ live sh e is. denied live sh size e is;
    weightless = λ e w x. refl;
    quiet = λ reply. refl;
    can = λ w cause. any_cause w (calls.Truncate path size) refl refl refl cause;
  }
