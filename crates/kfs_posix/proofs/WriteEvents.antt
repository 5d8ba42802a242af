-- `write` and `pwrite` of a session as events of a life.
use Rattle.std.proofs.Common.{◌≡◌, ℕ, ◌<◌, ◌≤◌, ◌+◌, ◌-◌, ◌==◌, true, false, cond, not, max, Bool, refl, sym, ◌∙◌, ap, subst, arith, List, length, take, Option, Some, None, Result, Ok, Err, nat_lt, nat_le, ℤ}
use Rattle.std.specs.Ordering.{nat_cmp}
use Rattle.std.specs.Option.{option_map, option_and_then}
use Rattle.std.specs.FinMap.{find, put}
use Rattle.std.proofs.lemmas.Bool.Decides.{nat_tests}
use Rattle.std.proofs.lemmas.List.{length-take-le}
use Rattle.kfs_path.specs.Pieces.{is_empty}
use Rattle.kfs_path.specs.declared.call.Call.{Call}
use Rattle.kfs_path.specs.declared.call.Call.TheVariants as calls
use Rattle.kfs_path.specs.declared.call.Data.TheVariants.{Plain}
use Rattle.kfs_path.specs.declared.call.Errno.{Errno}
use Rattle.kfs_path.specs.declared.call.Errno.TheVariants.{EBADF, EINVAL, EFBIG, ENOSPC}
use Rattle.kfs_path.specs.declared.call.Reply.{Reply}
use Rattle.kfs_path.specs.declared.call.Reply.TheVariants as replies
use Rattle.kfs_model.specs.declared.Description.{Description}
use Rattle.kfs_model.specs.declared.Node.TheVariants.{File}
use Rattle.kfs_model.specs.declared.Line.TheVariants as lines
use Rattle.kfs_model.specs.declared.Answer.TheVariants as answers
use Rattle.kfs_model.specs.Ladder.{◌>>=◌, ◌>>◌, ◌when◌, bind_ok}
use Rattle.kfs_model.specs.Tree.{Tree, node_of, with_node, written, fits, charge, chunks, greatest_length, has_room}
use Rattle.kfs_model.specs.Desk.{Desk, opened, with_description}
use Rattle.kfs_model.specs.Step.{World, After, settled, step, or_else, writes, content, greatest_count, with_offset, is_negative, natural, leaves, answers as answered_by}
use Rattle.kfs_model.specs.Change.{spanned, writing, offset_of}
use Rattle.kfs_model.specs.Life.{Live}
use Rattle.kfs_tx.specs.Tx.{seen}
use Rattle.kfs_core.specs.declared.room.Space.{Space}
use Rattle.kfs_core.specs.Files.{file_at, write_in}
use Rattle.kfs_core.specs.Flat.{inode_in}
use Rattle.kfs_core.specs.Room.{fits_in}
use Rattle.kfs_core.proofs.FileEffects.{grown_is}
use Rattle.kfs_core.proofs.FileJudges.{content_is, write_answers, write_size}
use Rattle.kfs_core.proofs.Fitting.{IsSpaceOf, fits_same}
use Rattle.kfs_laws.proofs.Lookups.{number_put}
use Rattle.kfs_posix.specs.declared.open_files.OpenFile.{OpenFile}
use Rattle.kfs_posix.specs.Opens.{Opens, open_at, desk_of, with_file, relengthed, relengthed_file, moved_to}
use Rattle.kfs_posix.specs.Holding.{Holds, Knows}
use Rattle.kfs_posix.specs.Turning.{at_offset}
use Rattle.kfs_posix.specs.Writing.{writable_in, writable_at, place_of, behind, moved_behind}
use Rattle.kfs_posix.specs.Volume.{Volume, limits_of}
use Rattle.kfs_posix.specs.Showing.{ShowsLive, GoesOn}
use Rattle.kfs_posix.proofs.Held.{world_in, file_is, descriptor_is, with_file_desk, file_holds, moved_knows, content_known}
use Rattle.kfs_posix.proofs.ReadGoes.{parted, refused_at, file_bytes, as_described}
use Rattle.kfs_posix.proofs.WriteJudges.{relengthed_knows, same_it, relengthed_desk, relengthed_at, relengthed_holds, moved_is, fits_short, fits_room, writable_same, writable_is, writes_some, wrote_after}
use Rattle.kfs_posix.proofs.WriteGoes.{Puts}
use Rattle.kfs_posix.proofs.Going.{spare, idle_goes}
use Rattle.kfs_posix.proofs.Rooms.{room_of}
use Rattle.kfs_posix.proofs.Calls.{stands_of}

abbrev pub space_of : Volume → Space
space_of b = record { keys = b.keys; pages = b.pages; charge = b.charge; chunks = b.chunks }

-- a writer is looked up, and then writes
pub looked_up : {X : Type 0} (x : Option (ℕ × Description)) (f : ℕ × Description → Result X Errno) → (or_else x EBADF >>= λ it. (EBADF when not it.1.write) >> f it) ≡ ((or_else x EBADF >>= λ it. (EBADF when not it.1.write) >> Ok it) >>= f)
looked_up None f = refl
looked_up (Some it) f = by (not it.1.write)
  where
    by : (b : Bool) → ((EBADF when b) >> f it) ≡ (((EBADF when b) >> Ok it) >>= f)
    by true = refl
    by false = refl

-- the room that the tree takes is what is counted
module _ (old : Volume) (live : Live) (sh : ShowsLive old live) where
  abbrev t : Tree
  t = live.world.tree

  pub space_is : IsSpaceOf (space_of old) (limits_of old) t
  space_is = record { keys = refl; pages = refl; charge = sh.charged; chunks = sh.chunked }

  pub keys_fit : charge t ≤ old.keys
  keys_fit = (room_of (limits_of old) t sh.room).0

  pub pages_fit : chunks t ≤ old.pages
  pages_fit = (room_of (limits_of old) t sh.room).1

module _ (old : Volume) (fd : ℕ) (given : List ℕ) where
  abbrev o : Opens
  o = old.files

  abbrev m : ℕ
  m = length given

  abbrev call : Call
  call = calls.Write fd (Plain given)

  -- what a write is, by the open file
  stepped : (live : Live) (sh : ShowsLive old live) (r : Result (ℕ × OpenFile) Errno) → writable_in o fd ≡ r → step (limits_of old) (spare old) live.world call ≡ settled (world_in live.world.tree o) (as_described r >>= λ it. writes (limits_of old) (world_in live.world.tree o) it given)
  stepped live sh r is =
      let t = live.world.tree in
      let w = world_in t o in
      (λ i. step (limits_of old) (spare old) (record { tree = t; desk = sh.desk i }) call)
      ∙ ap (settled w) (looked_up (opened w.desk fd) (λ it. writes (limits_of old) w it given))
      ∙ ap (λ x. settled w (x >>= λ it. writes (limits_of old) w it given)) (writable_same t o fd ∙ ap as_described is)

  abbrev before : Tree → Reply → After
  before t reply = record { world = world_in t o; reply = reply }

  abbrev same : Live → Reply → After
  same live reply = record { world = live.world; reply = reply }

  as_it_was : (live : Live) (sh : ShowsLive old live) (reply : Reply) → before live.world.tree reply ≡ same live reply
  as_it_was live sh reply = λ i. record { world = record { tree = live.world.tree; desk = sym sh.desk i }; reply = reply }

  pub write_refused : (e : Errno) → old.down ≡ None → writable_in o fd ≡ Err e → GoesOn old (lines.Call call) (answers.Reply (replies.Err e)) old
  write_refused e up is = idle_goes old call (replies.Err e) up (λ w x. refl) refl (λ live sh. stepped live sh (Err e) is ∙ as_it_was live sh (replies.Err e))

  -- the bytes and the place that the definition takes
  abbrev here : Live → ℕ × OpenFile → List ℕ
  here live it = content live.world.tree it.1.it.node

  abbrev place_in : Live → ℕ × OpenFile → ℕ
  place_in live it = cond it.1.it.append (length (here live it)) it.1.it.offset

  abbrev rest : Live → ℕ × OpenFile → Result After Errno
  rest live it = writes_some (limits_of old) (world_in live.world.tree o) it.0 it.1.it given (here live it) (place_in live it)

  abbrev all : Live → ℕ × OpenFile → Bool → Bool → Result After Errno
  all live it long none = (EINVAL when long) >> cond none (answered_by (world_in live.world.tree o) (replies.Number 0)) (rest live it)

  begun : (live : Live) (sh : ShowsLive old live) (it : ℕ × OpenFile) → writable_in o fd ≡ Ok it → (a b : Bool) → nat_lt greatest_count m ≡ a → is_empty given ≡ b → step (limits_of old) (spare old) live.world call ≡ settled (world_in live.world.tree o) (all live it a b)
  begun live sh it is a b e f = stepped live sh (Ok it) is ∙ (λ i. settled (world_in live.world.tree o) (all live it (e i) (f i)))

  pub write_long : (it : ℕ × OpenFile) → old.down ≡ None → writable_in o fd ≡ Ok it → nat_lt greatest_count m ≡ true → GoesOn old (lines.Call call) (answers.Reply (replies.Err EINVAL)) old
  write_long it up is long = idle_goes old call (replies.Err EINVAL) up (λ w x. refl) refl (λ live sh. begun live sh it is true (is_empty given) long refl ∙ as_it_was live sh (replies.Err EINVAL))

  pub write_nothing : (it : ℕ × OpenFile) → old.down ≡ None → writable_in o fd ≡ Ok it → nat_lt greatest_count m ≡ false → is_empty given ≡ true → GoesOn old (lines.Call call) (answers.Reply (replies.Number 0)) old
  write_nothing it up is short none = idle_goes old call (replies.Number 0) up (λ w x. refl) refl (λ live sh. begun live sh it is false true short none ∙ as_it_was live sh (replies.Number 0))

  -- ---- with bytes to write, in the tree that is shown

  module _ (it : ℕ × OpenFile) (is : open_at o fd ≡ Some it) (may : it.1.it.write ≡ true) where
    abbrev n : ℕ
    n = it.1.it.node

    pub knows : (live : Live) → ShowsLive old live → Knows live.world.tree it.1
    knows live sh = sh.holds.known it.0 it.1 (file_is o fd it is)

    pub bytes_of : (live : Live) → ShowsLive old live → (bytes : List ℕ) × (node_of live.world.tree n ≡ Some (File bytes))
    bytes_of live sh = let k = knows live sh in file_bytes live.world.tree it.1 k (k.writes may)

    pub here_is : (live : Live) (sh : ShowsLive old live) → here live it ≡ (bytes_of live sh).0
    here_is live sh = let f = bytes_of live sh in content_is (seen old.tx) live.world.tree (stands_of old live sh) n f.0 f.1

    pub length_is : (live : Live) (sh : ShowsLive old live) → length (here live it) ≡ it.1.length
    length_is live sh = content_known live.world.tree it.1 (knows live sh)

    pub place_is : (live : Live) (sh : ShowsLive old live) → place_in live it ≡ place_of it.1
    place_is live sh = ap (λ l. cond it.1.it.append l it.1.it.offset) (length_is live sh)

    -- how the judge over the objects answers
    module _ (place : ℕ) where
      abbrev pub judge : Result ℕ Errno
      judge = write_in (seen old.tx) (space_of old) n place m

      pub judged : (live : Live) (sh : ShowsLive old live) (w : World) (d : ℕ) (desc : Description) → w.tree ≡ live.world.tree → desc.node ≡ n
          → writes_some (limits_of old) w d desc given (here live it) place ≡ (judge >>= λ _. Ok (wrote_after w d desc given (here live it) place (fits (limits_of old) live.world.tree n (here live it) place m)))
      judged live sh w d desc tree_is node_is =
          let t = live.world.tree in
          let f = bytes_of live sh in
          let at : node_of t n ≡ Some (File (here live it)) = f.1 ∙ ap (λ b. Some (File b)) (sym (here_is live sh)) in
          (λ i. (EFBIG when nat_le greatest_length place) >> ((ENOSPC when (fits (limits_of old) (tree_is i) (node_is i) (here live it) place m == 0)) >> Ok (wrote_after w d desc given (here live it) place (fits (limits_of old) (tree_is i) (node_is i) (here live it) place m))))
          ∙ write_answers (seen old.tx) t (stands_of old live sh) n (here live it) at (wrote_after w d desc given (here live it) place (fits (limits_of old) t n (here live it) place m)) (limits_of old) (space_of old) place m (space_is old live sh) (keys_fit old live sh) (pages_fit old live sh)

      module _ (size : ℕ) (ok : judge ≡ Ok size) where
        abbrev pub j : ℕ
        j = fits_in (space_of old) size place m

        pub size_is : (live : Live) → ShowsLive old live → size ≡ length (here live it)
        size_is live sh =
            let f = bytes_of live sh in
            write_size (seen old.tx) live.world.tree (stands_of old live sh) n f.0 f.1 (space_of old) place m size ok ∙ ap length (sym (here_is live sh))

        pub j_is : (live : Live) (sh : ShowsLive old live) → j ≡ fits (limits_of old) live.world.tree n (here live it) place m
        j_is live sh =
            let f = bytes_of live sh in
            let t = live.world.tree in
            let at : node_of t n ≡ Some (File (here live it)) = f.1 ∙ ap (λ b. Some (File b)) (sym (here_is live sh)) in
            ap (λ s. fits_in (space_of old) s place m) (size_is live sh) ∙ fits_same (limits_of old) t n (here live it) sh.tree.sorted_nodes at (keys_fit old live sh) (pages_fit old live sh) (space_of old) place m (space_is old live sh)

        -- some bytes fit
        pub some : 0 < j
        some = by (bind_ok (file_at (inode_in (seen old.tx) n)) (λ size. (EFBIG when nat_le greatest_length place) >> ((ENOSPC when (fits_in (space_of old) size place m == 0)) >> Ok size)) size ok)
          where
            last : (s : ℕ) (a b : Bool) → (fits_in (space_of old) s place m == 0) ≡ b → ((EFBIG when a) >> ((ENOSPC when b) >> Ok s)) ≡ Ok size → 0 < j
            last s true b f e = absurd (cc)
            last s false true f e = absurd (cc)
            last s false false f e =
                let same : s ≡ size = cc in
                let none : (fits_in (space_of old) size place m == 0) ≡ false = ap (λ x. fits_in (space_of old) x place m == 0) (sym same) ∙ f in
                grind (arith, nat_tests)

            by : (s : ℕ) × (file_at (inode_in (seen old.tx) n) ≡ Ok s) × (((EFBIG when nat_le greatest_length place) >> ((ENOSPC when (fits_in (space_of old) s place m == 0)) >> Ok s)) ≡ Ok size) → 0 < j
            by x = last x.0 (nat_le greatest_length place) (fits_in (space_of old) x.0 place m == 0) refl x.2

        abbrev pub taken : List ℕ
        taken = take j given

        pub taken_is : length taken ≡ j
        taken_is = length-take-le j given (let e : j ≤ m = omega arith in e)

        abbrev pub new_bytes : Live → List ℕ
        new_bytes live = written (here live it) place taken

        pub at_file : (live : Live) (sh : ShowsLive old live) → node_of live.world.tree n ≡ Some (File (here live it))
        at_file live sh = let f = bytes_of live sh in f.1 ∙ ap (λ b. Some (File b)) (sym (here_is live sh))

        fits_some : (live : Live) (sh : ShowsLive old live) → 0 < fits (limits_of old) live.world.tree n (here live it) place m
        fits_some live sh = let e = j_is live sh in let s = some in omega arith

        pub short : (live : Live) (sh : ShowsLive old live) → place + length taken ≤ greatest_length
        short live sh = fits_short (limits_of old) live.world.tree sh.tree n (here live it) (at_file live sh) place m taken (fits_some live sh) (taken_is ∙ j_is live sh)

        pub fits_in_room : (live : Live) (sh : ShowsLive old live) → has_room (limits_of old) (with_node live.world.tree n (File (new_bytes live))) ≡ true
        fits_in_room live sh = fits_room (limits_of old) live.world.tree sh.tree n (here live it) (at_file live sh) place m taken (fits_some live sh) (taken_is ∙ j_is live sh)

        -- the new length
        pub new_length : (live : Live) (sh : ShowsLive old live) → length (new_bytes live) ≡ max it.1.length (behind place j)
        new_length live sh =
            let g = grown_is (here live it) place taken in
            let l = length_is live sh in
            let k = taken_is in
            let f = short live sh in
            omega arith

        pub behind_is : (live : Live) → ShowsLive old live → behind place j ≡ place + j
        behind_is live sh = let f = short live sh in let k = taken_is in omega arith

        -- what is open afterwards
        abbrev pub longer : Opens
        longer = relengthed o n (max it.1.length (behind place j))

        pub longer_holds : (live : Live) (sh : ShowsLive old live) → Holds longer (with_node live.world.tree n (File (new_bytes live)))
        longer_holds live sh = subst (λ l. Holds (relengthed o n l) (with_node live.world.tree n (File (new_bytes live)))) (new_length live sh) (relengthed_holds live.world.tree o n (here live it) (new_bytes live) (at_file live sh) sh.holds)

  pub writable_of : (it : ℕ × OpenFile) → writable_in o fd ≡ Ok it → (open_at o fd ≡ Some it) × (it.1.it.write ≡ true)
  writable_of it e = writable_is o fd it e

  -- ---- write

  offset_is : (desk : Desk) (d : ℕ) (x : Description) → opened desk fd ≡ Some (d, x) → offset_of desk fd ≡ x.offset
  offset_is desk d x e = rw e refl

  opened_put : (d : ℕ) (x : Description) → find nat_cmp fd o.descriptors ≡ Some d → opened (with_description (desk_of o) d x) fd ≡ Some (d, x)
  opened_put d x e =
      ap (option_and_then {U = ℕ × Description} (λ d'. option_map {U = ℕ × Description} (λ it. (d', it)) (find nat_cmp d' (put nat_cmp d x (desk_of o).descriptions)))) e
      ∙ ap (option_map {U = ℕ × Description} (λ it. (d, it))) (number_put d x (desk_of o).descriptions)

  module _ (it : ℕ × OpenFile) (writer : writable_in o fd ≡ Ok it) (small : nat_lt greatest_count m ≡ false) (full : is_empty given ≡ false) where
    pub is_may : (open_at o fd ≡ Some it) × (it.1.it.write ≡ true)
    is_may = writable_is o fd it writer

    abbrev pub place : ℕ
    place = place_of it.1

    rested : (live : Live) (sh : ShowsLive old live) → step (limits_of old) (spare old) live.world call
        ≡ settled (world_in live.world.tree o) (judge it is_may.0 is_may.1 place >>= λ _. Ok (wrote_after (world_in live.world.tree o) it.0 it.1.it given (here live it) place (fits (limits_of old) live.world.tree it.1.it.node (here live it) place m)))
    rested live sh =
        let w = world_in live.world.tree o in
        begun live sh it writer false false small full
        ∙ ap (λ p. settled w (writes_some (limits_of old) w it.0 it.1.it given (here live it) p)) (place_is it is_may.0 is_may.1 live sh)
        ∙ ap (settled w) (judged it is_may.0 is_may.1 place live sh w it.0 it.1.it refl refl)

    pub write_denied : (e : Errno) → old.down ≡ None → write_in (seen old.tx) (space_of old) it.1.it.node place m ≡ Err e → GoesOn old (lines.Call call) (answers.Reply (replies.Err e)) old
    write_denied e up denied = idle_goes old call (replies.Err e) up (λ w x. refl) refl (λ live sh.
        rested live sh ∙ ap (λ r. settled (world_in live.world.tree o) (r >>= λ _. Ok (wrote_after (world_in live.world.tree o) it.0 it.1.it given (here live it) place (fits (limits_of old) live.world.tree it.1.it.node (here live it) place m)))) denied
        ∙ as_it_was live sh (replies.Err e))

    module _ (size : ℕ) (ok : write_in (seen old.tx) (space_of old) it.1.it.node place m ≡ Ok size) where
      abbrev pub count : ℕ
      count = fits_in (space_of old) size place m

      abbrev long : Opens
      long = relengthed o it.1.it.node (max it.1.length (behind place count))

      abbrev longer_file : OpenFile
      longer_file = relengthed_file it.1.it.node (max it.1.length (behind place count)) it.1

      abbrev pub after_files : Opens
      after_files = moved_behind long it.0 place count

      has : find nat_cmp it.0 o.files ≡ Some it.1
      has = file_is o fd it is_may.0

      moved : (live : Live) (sh : ShowsLive old live) → after_files ≡ with_file long it.0 (at_offset longer_file (place + count))
      moved live sh =
          let c = some it is_may.0 is_may.1 place size ok in
          let test : (count == 0) ≡ false = grind (arith, nat_tests) in
          ap (λ b. cond b long (moved_to long it.0 (behind place count))) test
          ∙ moved_is long it.0 (behind place count) longer_file (relengthed_at o it.1.it.node (max it.1.length (behind place count)) it.0 it.1 has)
          ∙ ap (λ p. with_file long it.0 (at_offset longer_file p)) (behind_is it is_may.0 is_may.1 place size ok live sh)

      desk_is : (live : Live) (sh : ShowsLive old live) → desk_of after_files ≡ with_description (desk_of o) it.0 (with_offset it.1.it (place + count))
      desk_is live sh =
          ap desk_of (moved live sh)
          ∙ with_file_desk long it.0 (at_offset longer_file (place + count))
          ∙ (λ i. with_description (relengthed_desk o it.1.it.node (max it.1.length (behind place count)) i) it.0 (with_offset (same_it it.1.it.node (max it.1.length (behind place count)) it.1 i) (place + count)))

      abbrev given_in : List ℕ
      given_in = take count given

      abbrev new_tree : Live → Tree
      new_tree live = with_node live.world.tree it.1.it.node (File (written (here live it) place given_in))

      pub write_puts : (live : Live) (sh : ShowsLive old live) → Puts old it.1.it.node size place given_in call (replies.Number count) after_files live
      write_puts live sh =
          let t = live.world.tree in
          let w = world_in t o in
          let d = it.0 in
          let open' = is_may.0 in
          let may = is_may.1 in
          let same = j_is it open' may place size ok live sh in
          let long_is = taken_is it open' may place size ok in
          let c = some it open' may place size ok in
          let low = behind_is it open' may place size ok live sh in
          let fit = short it open' may place size ok live sh in
          let test : (count == 0) ≡ false = grind (arith, nat_tests) in
          let back : place + count - count ≡ place = omega arith in
          record {
            bytes = here live it;
            file = at_file it open' may place size ok live sh;
            size_is = size_is it open' may place size ok live sh;
            step_is = rested live sh
                ∙ ap (λ r. settled w (r >>= λ _. Ok (wrote_after w d it.1.it given (here live it) place (fits (limits_of old) t it.1.it.node (here live it) place m)))) ok
                ∙ ap (wrote_after w d it.1.it given (here live it) place) (sym same)
                ∙ (λ i. record { world = record { tree = new_tree live; desk = sym (desk_is live sh) i }; reply = replies.Number count });
            weighs =
                ap (λ p. writing (p - count) count) (ap (λ desk. offset_of desk fd) (desk_is live sh) ∙ offset_is (with_description (desk_of o) d (with_offset it.1.it (place + count))) d (with_offset it.1.it (place + count)) (opened_put d (with_offset it.1.it (place + count)) (descriptor_is o fd it open')))
                ∙ ap (λ p. writing p count) back
                ∙ ap (λ b. cond b None (Some (2 + spanned place count))) test
                ∙ ap (λ l. Some (2 + spanned place l)) (sym long_is);
            holds = subst (λ files. Holds files (new_tree live)) (sym (moved live sh))
                (file_holds (new_tree live) long d longer_file (at_offset longer_file (place + count)) (longer_holds it open' may place size ok live sh)
                (relengthed_at o it.1.it.node (max it.1.length (behind place count)) d it.1 has)
                (moved_knows (new_tree live) longer_file (place + count) (omega arith)
                (subst (λ l. Knows (new_tree live) (relengthed_file it.1.it.node l it.1)) (new_length it open' may place size ok live sh)
                (relengthed_knows t it.1.it.node (here live it) (written (here live it) place given_in) it.1 (at_file it open' may place size ok live sh) (knows it open' may live sh)))) refl);
            fits = fit;
            some = let l = long_is in omega arith;
            room = fits_in_room it open' may place size ok live sh;
          }

  -- ---- pwrite

  module _ (offset : ℤ) where
    abbrev pcall : Call
    pcall = calls.Pwrite fd (Plain given) offset

    abbrev point : ℕ
    point = natural offset

    -- a description that writes at the point
    abbrev pointed : Description → Description
    pointed it = record { node = it.node; offset = point; read = it.read; write = true; append = false }

    abbrev tail : World → ℕ × Description → Result After Errno
    tail w it = (EINVAL when is_negative offset) >> (writes (limits_of old) w (it.0, pointed it.1) given >>= λ after. leaves w after.world.tree after.reply)

    pstepped : (live : Live) (sh : ShowsLive old live) → step (limits_of old) (spare old) live.world pcall ≡ settled (world_in live.world.tree o) (as_described (writable_in o fd) >>= tail (world_in live.world.tree o))
    pstepped live sh =
        let t = live.world.tree in
        let w = world_in t o in
        (λ i. step (limits_of old) (spare old) (record { tree = t; desk = sh.desk i }) pcall)
        ∙ ap (settled w) (looked_up (opened w.desk fd) (tail w))
        ∙ ap (λ x. settled w (x >>= tail w)) (writable_same t o fd)

    pub pwrite_refused : (e : Errno) → old.down ≡ None → writable_at o fd offset ≡ Err e → GoesOn old (lines.Call pcall) (answers.Reply (replies.Err e)) old
    pwrite_refused e up is = idle_goes old pcall (replies.Err e) up (λ w x. refl) refl (λ live sh. pstepped live sh ∙ refused_at (world_in live.world.tree o) (writable_in o fd) (is_negative offset) _ e is ∙ as_it_was live sh (replies.Err e))

    module _ (it : ℕ × OpenFile) (writer : writable_at o fd offset ≡ Ok it) where
      writer_in : writable_in o fd ≡ Ok it
      writer_in = (parted (writable_in o fd) (is_negative offset) it writer).0

      pub p_may : (open_at o fd ≡ Some it) × (it.1.it.write ≡ true)
      p_may = writable_is o fd it writer_in

      abbrev prest : Live → Result After Errno
      prest live = writes_some (limits_of old) (world_in live.world.tree o) it.0 (pointed it.1.it) given (here live it) point

      abbrev pall : Live → Bool → Bool → Result After Errno
      pall live long none = (EINVAL when long) >> cond none (answered_by (world_in live.world.tree o) (replies.Number 0)) (prest live)

      abbrev left : Live → After → Result After Errno
      left live after = leaves (world_in live.world.tree o) after.world.tree after.reply

      pbegun : (live : Live) (sh : ShowsLive old live) (a b : Bool) → nat_lt greatest_count m ≡ a → is_empty given ≡ b → step (limits_of old) (spare old) live.world pcall ≡ settled (world_in live.world.tree o) (pall live a b >>= left live)
      pbegun live sh a b e f =
          let w = world_in live.world.tree o in
          pstepped live sh
          ∙ ap (λ r. settled w (as_described r >>= tail w)) writer_in
          ∙ (λ i. settled w ((EINVAL when (parted (writable_in o fd) (is_negative offset) it writer).1 i) >> (pall live (e i) (f i) >>= left live)))

      pub pwrite_long : old.down ≡ None → nat_lt greatest_count m ≡ true → GoesOn old (lines.Call pcall) (answers.Reply (replies.Err EINVAL)) old
      pwrite_long up long = idle_goes old pcall (replies.Err EINVAL) up (λ w x. refl) refl (λ live sh. pbegun live sh true (is_empty given) long refl ∙ as_it_was live sh (replies.Err EINVAL))

      pub pwrite_nothing : old.down ≡ None → nat_lt greatest_count m ≡ false → is_empty given ≡ true → GoesOn old (lines.Call pcall) (answers.Reply (replies.Number 0)) old
      pwrite_nothing up short none = idle_goes old pcall (replies.Number 0) up (λ w x. refl) refl (λ live sh. pbegun live sh false true short none ∙ as_it_was live sh (replies.Number 0))

      module _ (small : nat_lt greatest_count m ≡ false) (full : is_empty given ≡ false) where
        abbrev pafter : Live → After
        pafter live = wrote_after (world_in live.world.tree o) it.0 (pointed it.1.it) given (here live it) point (fits (limits_of old) live.world.tree it.1.it.node (here live it) point m)

        prested : (live : Live) (sh : ShowsLive old live) → step (limits_of old) (spare old) live.world pcall ≡ settled (world_in live.world.tree o) ((judge it p_may.0 p_may.1 point >>= λ _. Ok (pafter live)) >>= left live)
        prested live sh =
            let w = world_in live.world.tree o in
            pbegun live sh false false small full
            ∙ ap (λ r. settled w (r >>= left live)) (judged it p_may.0 p_may.1 point live sh w it.0 (pointed it.1.it) refl refl)

        pub pwrite_denied : (e : Errno) → old.down ≡ None → write_in (seen old.tx) (space_of old) it.1.it.node point m ≡ Err e → GoesOn old (lines.Call pcall) (answers.Reply (replies.Err e)) old
        pwrite_denied e up denied = idle_goes old pcall (replies.Err e) up (λ w x. refl) refl (λ live sh.
            prested live sh ∙ ap (λ r. settled (world_in live.world.tree o) ((r >>= λ _. Ok (pafter live)) >>= left live)) denied ∙ as_it_was live sh (replies.Err e))

        module _ (size : ℕ) (ok : write_in (seen old.tx) (space_of old) it.1.it.node point m ≡ Ok size) where
          abbrev pub pcount : ℕ
          pcount = fits_in (space_of old) size point m

          abbrev pub plong : Opens
          plong = relengthed o it.1.it.node (max it.1.length (behind point pcount))

          abbrev pgiven : List ℕ
          pgiven = take pcount given

          abbrev ptree : Live → Tree
          ptree live = with_node live.world.tree it.1.it.node (File (written (here live it) point pgiven))

          pub pwrite_puts : (live : Live) (sh : ShowsLive old live) → Puts old it.1.it.node size point pgiven pcall (replies.Number pcount) plong live
          pwrite_puts live sh =
              let t = live.world.tree in
              let w = world_in t o in
              let open' = p_may.0 in
              let may = p_may.1 in
              let same = j_is it open' may point size ok live sh in
              let long_is = taken_is it open' may point size ok in
              let c = some it open' may point size ok in
              let test : (pcount == 0) ≡ false = grind (arith, nat_tests) in
              record {
                bytes = here live it;
                file = at_file it open' may point size ok live sh;
                size_is = size_is it open' may point size ok live sh;
                step_is = prested live sh
                    ∙ ap (λ r. settled w ((r >>= λ _. Ok (pafter live)) >>= left live)) ok
                    ∙ ap (λ j. record { world = record { tree = with_node t it.1.it.node (File (written (here live it) point (take j given))); desk = desk_of o }; reply = replies.Number j }) (sym same)
                    ∙ (λ i. record { world = record { tree = ptree live; desk = sym (relengthed_desk o it.1.it.node (max it.1.length (behind point pcount))) i }; reply = replies.Number pcount });
                weighs = ap (λ b. cond b None (Some (2 + spanned point pcount))) test ∙ ap (λ l. Some (2 + spanned point l)) (sym long_is);
                holds = longer_holds it open' may point size ok live sh;
                fits = short it open' may point size ok live sh;
                some = let l = long_is in omega arith;
                room = fits_in_room it open' may point size ok live sh;
              }
