-- `close` of a session as an event of a life.
use Rattle.std.proofs.Common.{◌≡◌, ◌≢◌, ℕ, ◌<◌, ◌≤◌, ◌+◌, ◌-◌, ◌^◌, ◌==◌, ◌||◌, inl, inr, true, false, cond, not, Bool, refl, sym, ◌∙◌, ap, subst, arith, List, [], ◌∷◌, filter, length, T, Option, Some, None, Ok, Err, nat_lt}
use Rattle.std.specs.Ordering.{nat_cmp}
use Rattle.std.specs.List.{list_any}
use Rattle.std.specs.Option.{option_map, option_map_or}
use Rattle.std.specs.FinMap.{find, is_sorted}
use Rattle.std.specs.FinMap.Entries.{below_all}
use Rattle.std.proofs.lemmas.Bool.Decides.{nat_tests}
use Rattle.std.proofs.lemmas.Option.{same_Some}
use Rattle.kv_device.specs.declared.fault.DeviceFault.{DeviceFault}
use Rattle.kv_device.specs.Machine.{Machine}
use Rattle.kfs_objects.specs.Keys.{orphan_key}
use Rattle.kfs_path.specs.declared.call.Call.{Call}
use Rattle.kfs_path.specs.declared.call.Call.TheVariants as calls
use Rattle.kfs_path.specs.declared.call.Cause.{Cause}
use Rattle.kfs_path.specs.declared.call.Cause.TheVariants.{Cut, Eio, NoMem}
use Rattle.kfs_path.specs.declared.call.Errno.{Errno}
use Rattle.kfs_path.specs.declared.call.Errno.TheVariants.{EBADF}
use Rattle.kfs_path.specs.declared.call.Reply.{Reply}
use Rattle.kfs_path.specs.declared.call.Reply.TheVariants as replies
use Rattle.kfs_model.specs.declared.Description.{Description}
use Rattle.kfs_model.specs.declared.Line.TheVariants as lines
use Rattle.kfs_model.specs.declared.Answer.TheVariants as answers
use Rattle.kfs_model.specs.declared.Node.{Node}
use Rattle.kfs_model.specs.declared.Node.TheVariants.{Dir, File}
use Rattle.kfs_model.specs.Tree.{Tree, Limits, IsTree, node_of, is_named}
use Rattle.kfs_model.specs.Desk.{Desk, is_open, opened}
use Rattle.kfs_model.specs.Step.{World, After, step, settled, swept}
use Rattle.kfs_model.specs.Change.{weight, gone}
use Rattle.kfs_model.specs.Life.{Live, can_fail, stays_here}
use Rattle.kfs_laws.specs.Worlds.{IsDesk}
use Rattle.kfs_laws.proofs.Lookups.{decide_number, number_apart, number_tied}
use Rattle.kfs_laws.proofs.Desks.{closing_is}
use Rattle.kfs_shows.proofs.Sweeping.{nameless_test, test_nameless}
use Rattle.kfs_tx.specs.Tx.{Tx, Caused, GetFault, seen, deleted_in, one_change}
use Rattle.kfs_file.specs.Contents.{pending_of}
use Rattle.kfs_core.specs.Flat.{inode_in}
use Rattle.kfs_core.specs.Removing.{chunks_for, Goes, ReleaseFault, release_at}
use Rattle.kfs_core.proofs.Ways.{kind_of}
use Rattle.kfs_core.proofs.Pieces.{ok_is}
use Rattle.kfs_core.proofs.Dropped.{follows_deleted, goes_follows}
use Rattle.kfs_core.proofs.CuttingJudges.{release_finds}
use Rattle.kfs_core.proofs.Plans.{release_plan}
use Rattle.kfs_posix.specs.declared.open_files.OpenFile.{OpenFile}
use Rattle.kfs_posix.specs.Opens.{Opens, desk_of, open_at, closed, without, is_held}
use Rattle.kfs_posix.specs.Closing.{remains}
use Rattle.kfs_posix.specs.Holding.{Holds, Knows}
use Rattle.kfs_posix.specs.Volume.{Volume, limits_of, cause_of}
use Rattle.kfs_posix.specs.Showing.{ShowsLive, GoesOn}
use Rattle.kfs_posix.proofs.Maps.{mapped, find-map}
use Rattle.kfs_posix.proofs.Slots.{find_without}
use Rattle.kfs_posix.proofs.Held.{world_in, description, described, opened_same, file_is, close_from, closed_same, closed_file, swept_whole}
use Rattle.kfs_posix.proofs.Going.{spare, spare_free, turn_goes, up_goes, Refuses}
use Rattle.kfs_posix.proofs.Calls.{unread_falls, stands_of}
use Rattle.kfs_posix.proofs.Planned.{Planned, world_shown, planned_goes, planned_falls, early_falls, change_caused}
use Rattle.kfs_posix.proofs.Unnaming.{both_of, below_none, open_is, swept_kept, swept_knows}
use Rattle.kfs_core.specs.declared.fault.CoreFault.TheVariants.{Device}
use Rattle.kfs_posix.proofs.Changing.{or_false}

-- an entry that passes a test is found
any_find : {X : Type 0} (p : X → Bool) (es : List (ℕ × X)) → T (is_sorted nat_cmp es) → list_any (λ e. p e.1) es ≡ true → (d : ℕ) × (x : X) × (find nat_cmp d es ≡ Some x) × (p x ≡ true)
any_find p [] sorted e = absurd (cc)
any_find {X} p (y ∷ es) sorted e = by (p y.1) refl e (λ g. any_find p es (both_of (below_all nat_cmp y.0 es) (is_sorted nat_cmp es) sorted).1 g)
  where
    below : T (below_all nat_cmp y.0 es)
    below = (both_of (below_all nat_cmp y.0 es) (is_sorted nat_cmp es) sorted).0

    by : (b : Bool) → p y.1 ≡ b → (b || list_any (λ e. p e.1) es) ≡ true → (list_any (λ e. p e.1) es ≡ true → (d : ℕ) × (x : X) × (find nat_cmp d es ≡ Some x) × (p x ≡ true)) → (d : ℕ) × (x : X) × (find nat_cmp d (y ∷ es) ≡ Some x) × (p x ≡ true)
    by true is e rest = (y.0, y.1, ap (λ b. cond b (Some y.1) (find nat_cmp y.0 es)) (number_tied y.0), is)
    by false is e rest =
        let h = rest e in
        let apart : h.0 ≢ y.0 = λ same. (let bad : None ≡ Some h.1 = sym (below_none y.0 es below) ∙ ap (λ k. find nat_cmp k es) (sym same) ∙ h.2 in cc) in
        (h.0, h.1, ap (λ b. cond b (Some y.1) (find nat_cmp h.0 es)) (number_apart h.0 y.0 apart) ∙ h.2, h.3)

module _ (t : Tree) (o : Opens) (fd : ℕ) (it : ℕ × OpenFile) (holds : Holds o t) (has : open_at o fd ≡ Some it) where
  abbrev pub left : Opens
  left = closed o fd it.0

  mapped_find : (d : ℕ) (x : Description) → find nat_cmp d (mapped description o.files) ≡ Some x → (f : OpenFile) × (find nat_cmp d o.files ≡ Some f) × (f.it ≡ x)
  mapped_find d x e = by (find nat_cmp d o.files) refl (sym (find-map description d o.files) ∙ e)
    where
      by : (y : Option OpenFile) → find nat_cmp d o.files ≡ y → option_map description y ≡ Some x → (f : OpenFile) × (find nat_cmp d o.files ≡ Some f) × (f.it ≡ x)
      by None is e = absurd (cc)
      by (Some f) is e = (f, is, same_Some f.it x e)

  -- another description stays
  still_file : (d : ℕ) (f : OpenFile) → d ≢ it.0 → find nat_cmp d o.files ≡ Some f → find nat_cmp d left.files ≡ Some f
  still_file d f apart e = by (is_held (without o.descriptors fd) it.0)
    where
      by : (b : Bool) → find nat_cmp d (cond b o.files (filter (λ e. not (e.0 == it.0)) o.files)) ≡ Some f
      by true = e
      by false = let t : (d == it.0) ≡ false = grind (arith, nat_tests) in find_without it.0 d o.files ∙ ap (λ b. cond (not b) (find nat_cmp d o.files) None) t ∙ e

  -- another node that was open is open still
  pub others_open : (n : ℕ) → n ≢ it.1.it.node → is_open (desk_of o) n ≡ true → is_open (desk_of left) n ≡ true
  others_open n apart opened =
      let h = any_find (λ (x : Description). x.node == n) (mapped description o.files) holds.desk.sorted_descriptions opened in
      let f = mapped_find h.0 h.1 h.2 in
      let node : h.1.node ≡ n = let e = h.3 in let k = h.1.node in grind (arith, nat_tests) in
      let other : h.0 ≢ it.0 = λ same. apart (sym node ∙ ap (λ (x : Description). x.node) (sym f.2) ∙ ap (λ (g : OpenFile). g.it.node) (same_Some f.0 it.1 (sym f.1 ∙ ap (λ k. find nat_cmp k o.files) same ∙ file_is o fd it has))) in
      let here = open_is left h.0 f.0 (still_file h.0 f.0 other f.1) in
      ap (is_open (desk_of left)) (sym node ∙ ap (λ (x : Description). x.node) (sym f.2)) ∙ here

  pub knows : Knows t it.1
  knows = holds.known it.0 it.1 (file_is o fd it has)

  pub closed_desk_is : IsDesk (desk_of left)
  closed_desk_is = subst IsDesk (closed_same o fd it holds.desk has) (closing_is (desk_of o) holds.desk fd)

  -- what is known after the call, whether the node went or not
  pub left_holds : Holds left (swept (world_in t left)).tree
  left_holds = record {
    desk = closed_desk_is;
    known = λ d f is. swept_knows t t left f f.named refl (holds.known d f (closed_file o fd it holds.desk has d f is)) (open_is left d f is) (holds.known d f (closed_file o fd it holds.desk has d f is)).named;
    kept = λ n node there none. swept_kept t (desk_of left) n node there none;
  }

  pub close_steps : (k : Limits) (d : ℕ) → step k d (world_in t o) (calls.Close fd) ≡ record { world = swept (world_in t left); reply = replies.Done }
  close_steps k d =
      ap (λ x. settled (world_in t o) (close_from (world_in t o) fd x)) (opened_same o fd ∙ ap (option_map described) has)
      ∙ (λ i. record { world = swept (record { tree = t; desk = closed_same o fd it holds.desk has i }); reply = replies.Done })

  pub stays_whole : remains left it.1 ≡ true → (swept (world_in t left)).tree ≡ t
  stays_whole stays = swept_whole t (desk_of left) (λ n node there none. elim (decide_number n it.1.it.node) [
    | inl is ↦
        let no : it.1.named ≡ false = knows.named ∙ ap (is_named t) (sym is) ∙ none in
        ap (is_open (desk_of left)) is ∙ sym (ap (λ b. b || is_open (desk_of left) it.1.it.node) no) ∙ stays
    | inr apart ↦ others_open n apart (holds.kept n node there none)
  ])

-- a tree that stays has no weight
same_weight : (fd : ℕ) (w : World) (desk : Desk) (reply : Reply) → weight w (calls.Close fd) (record { world = record { tree = w.tree; desk = desk }; reply = reply }) ≡ None
same_weight fd w desk reply = let e : nat_lt (length w.tree.nodes) (length w.tree.nodes) ≡ false = grind (arith, nat_tests) in ap (λ b. cond {A = Option ℕ} b (Some (4 + (gone w.tree w.tree))) None) e

-- only the pending changes are others
pub released_same : (r : Tx) (n size : ℕ) (mid : Tx) → Goes r n size mid → deleted_in mid (orphan_key n) ≡ pending_of (deleted_in mid (orphan_key n)) r
released_same r n size mid goes = (follows_deleted r mid (orphan_key n) (chunks_for size + 1) (goes_follows r mid n size goes)).same

-- the fault of a release has a cause from outside
pub release_caused : (r : Tx) (n size : ℕ) (fault : DeviceFault) (new : Machine) → ReleaseFault r n size fault new → Caused r.machine fault new
release_caused r n size fault new (inl h) = h.cause
release_caused r n size fault new (inr (mid, goes, h)) = change_caused r (deleted_in mid (orphan_key n)) (4 + chunks_for size) mid.next fault new (released_same r n size mid goes) h

few_chunks : (t : Tree) → IsTree t → (n : ℕ) (node : Node) → node_of t n ≡ Some node → (size : ℕ) → size ≡ (kind_of node).1 → 2 + chunks_for size ≤ 260
few_chunks t tree n Dir there size is = omega arith
few_chunks t tree n (File bytes) there size is = let h = tree.lengths n bytes there in omega arith

module _ (old : Volume) (fd : ℕ) (up : old.down ≡ None) where
  abbrev pub call : Call
  call = calls.Close fd

  desk_step : (live : Live) (sh : ShowsLive old live) (d : ℕ) → step (limits_of old) d live.world call ≡ step (limits_of old) d (world_in live.world.tree old.files) call
  desk_step live sh d = λ i. step (limits_of old) d (record { tree = live.world.tree; desk = sh.desk i }) call

  -- no such descriptor
  pub close_bad : open_at old.files fd ≡ None → GoesOn old (lines.Call call) (answers.Reply (replies.Err EBADF)) old
  close_bad none = turn_goes old old.files call (replies.Err EBADF) (spare old) (spare_free old) up refl (λ live sh. (
    desk_step live sh (spare old)
        ∙ ap (λ x. settled (world_in live.world.tree old.files) (close_from (world_in live.world.tree old.files) fd x)) (opened_same old.files fd ∙ ap (option_map described) none),
    same_weight fd live.world (desk_of old.files) (replies.Err EBADF),
    sh.holds,
  ))

  module _ (it : ℕ × OpenFile) (has : open_at old.files fd ≡ Some it) where
    -- the node stays
    pub close_goes : remains (closed old.files fd it.0) it.1 ≡ true → GoesOn old (lines.Call call) (answers.Reply replies.Done) (record old { files = closed old.files fd it.0 })
    close_goes stays = turn_goes old (closed old.files fd it.0) call replies.Done (spare old) (spare_free old) up refl (λ live sh.
        let t = live.world.tree in
        let o = old.files in
        let whole = stays_whole t o fd it sh.holds has stays in (
          desk_step live sh (spare old) ∙ close_steps t o fd it sh.holds has (limits_of old) (spare old)
              ∙ (λ i. record { world = record { tree = whole i; desk = desk_of (closed o fd it.0) }; reply = replies.Done }),
          same_weight fd live.world (desk_of (closed o fd it.0)) replies.Done,
          subst (Holds (closed o fd it.0)) whole (left_holds t o fd it sh.holds has),
        ))

    module _ (gone_too : remains (closed old.files fd it.0) it.1 ≡ false) where
      no_name : it.1.named ≡ false
      no_name = (or_false it.1.named (is_open (desk_of (closed old.files fd it.0)) it.1.it.node) gone_too).0

      shut : is_open (desk_of (closed old.files fd it.0)) it.1.it.node ≡ false
      shut = (or_false it.1.named (is_open (desk_of (closed old.files fd it.0)) it.1.it.node) gone_too).1

      -- the call may fail, since the node has no name
      can : (live : Live) → ShowsLive old live → (cause : Cause) → can_fail live.world call cause ≡ true
      can live sh = by
        where
          uses : stays_here live.world call ≡ false
          uses =
              ap (λ (desk : Desk). option_map_or (λ (it : ℕ × Description). is_named live.world.tree it.1.node) (opened desk fd) false) sh.desk
              ∙ ap (λ x. option_map_or (λ (it : ℕ × Description). is_named live.world.tree it.1.node) x false) (opened_same old.files fd ∙ ap (option_map described) has)
              ∙ sym (knows live.world.tree old.files fd it sh.holds has).named ∙ no_name

          by : (cause : Cause) → can_fail live.world call cause ≡ true
          by Cut = ap (λ b. not (b || false)) uses
          by Eio = ap not uses
          by NoMem = ap not uses

      planned : (size : ℕ) → release_at (inode_in (seen old.tx) it.1.it.node) ≡ Ok size → (mid : Tx) → Goes old.tx it.1.it.node size mid → (live : Live) → ShowsLive old live
          → Planned old (deleted_in mid (orphan_key it.1.it.node)) call (closed old.files fd it.0) (4 + chunks_for size) (old.charge - (2 + chunks_for size)) (old.chunks - chunks_for size) live
      planned size judged mid goes live sh =
          let t = live.world.tree in
          let o = old.files in
          let n = it.1.it.node in
          let known = knows t o fd it sh.holds has in
          let steps : (d : ℕ) → step (limits_of old) d live.world call ≡ record { world = swept (world_in t (closed o fd it.0)); reply = replies.Done } = λ d. desk_step live sh d ∙ close_steps t o fd it sh.holds has (limits_of old) d in
          let plan = release_plan old.tx sh.light.ready (limits_of old) live.world (world_shown old live sh) (let h = sh.low in omega arith) sh.room old.charge old.chunks sh.charged sh.chunked fd (desk_of (closed o fd it.0)) steps n known.node known.there
          (test_nameless t n (sym known.named ∙ no_name))
          (λ k node apart there none. others_open t o fd it sh.holds has k apart (sh.holds.kept k node there (nameless_test t sh.tree k none))) shut size judged mid goes in
          let tree_is : (swept (world_in t (closed o fd it.0))).tree ≡ plan.world.tree = ap (λ (a : After). a.world.tree) (sym (steps 0) ∙ plan.steps 0) in
          record { plan = plan; holds = subst (Holds (closed o fd it.0)) tree_is (left_holds t o fd it sh.holds has) }

      module _ (count : old.tx.changes + 1 < 2 ^ 63) where
        pub release_goes : (size : ℕ) → release_at (inode_in (seen old.tx) it.1.it.node) ≡ Ok size → (mid : Tx) → Goes old.tx it.1.it.node size mid
            → GoesOn old (lines.Call call) (answers.Reply replies.Done)
            (record old { tx = one_change (deleted_in mid (orphan_key it.1.it.node)) (4 + chunks_for size) mid.next; charge = old.charge - (2 + chunks_for size); chunks = old.chunks - chunks_for size; files = closed old.files fd it.0 })
        release_goes size judged mid goes =
            planned_goes old (deleted_in mid (orphan_key it.1.it.node)) (released_same old.tx it.1.it.node size mid goes) call (closed old.files fd it.0) (4 + chunks_for size) (old.charge - (2 + chunks_for size)) (old.chunks - chunks_for size) count up (planned size judged mid goes)

        pub release_falls : (new : Volume) (size : ℕ) (fault : DeviceFault) → release_at (inode_in (seen old.tx) it.1.it.node) ≡ Ok size → new.down ≡ Some (cause_of fault) → limits_of new ≡ limits_of old → ReleaseFault old.tx it.1.it.node size fault new.tx.machine
            → Refuses old call (Device fault) new
        release_falls new size fault judged down limits (inl h) = early_falls old new call (2 + chunks_for size) fault up down limits can (λ live sh.
            let known = knows live.world.tree old.files fd it sh.holds has in
            few_chunks live.world.tree sh.tree it.1.it.node known.node known.there size (ok_is size (kind_of known.node).1 (sym judged ∙ release_finds (seen old.tx) live.world.tree (stands_of old live sh) it.1.it.node known.node known.there))) h
        release_falls new size fault judged down limits (inr (mid, goes, h)) =
            planned_falls old (deleted_in mid (orphan_key it.1.it.node)) (released_same old.tx it.1.it.node size mid goes) call (closed old.files fd it.0) (4 + chunks_for size) (old.charge - (2 + chunks_for size)) (old.chunks - chunks_for size) count up (planned size judged mid goes) new fault down limits can h

      pub release_unread : (new : Volume) (fault : DeviceFault) → new.down ≡ Some (cause_of fault) → limits_of new ≡ limits_of old → GetFault old.tx fault new.tx.machine → Refuses old call (Device fault) new
      release_unread new fault down limits h = unread_falls old new call fault up down limits can h

      -- what is open is there, so it is released without an error
      pub release_never : (new : Volume) (e : Errno) (reply : Reply) → release_at (inode_in (seen old.tx) it.1.it.node) ≡ Err e → GoesOn old (lines.Call call) (answers.Reply reply) new
      release_never new e reply judged = up_goes old new call reply up (λ s live showing sh.
          let known = knows live.world.tree old.files fd it sh.holds has in
          absurd (let bad : Ok (kind_of known.node).1 ≡ Err e = sym (release_finds (seen old.tx) live.world.tree (stands_of old live sh) it.1.it.node known.node known.there) ∙ judged in cc))
