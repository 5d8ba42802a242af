-- `open` of a session as an event of a life.
use Rattle.std.proofs.Common.{◌≡◌, ℕ, ◌<◌, ◌+◌, ◌^◌, ◌&&◌, true, refl, sym, ◌∙◌, ap, subst, arith, List, [], length, Some, None, Result, Ok, Err, nat_le}
use Rattle.std.specs.Ordering.{nat_cmp}
use Rattle.std.specs.FinMap.{find, put}
use Rattle.kv_device.specs.declared.fault.DeviceFault.{DeviceFault}
use Rattle.kfs_path.specs.declared.call.Call.{Call}
use Rattle.kfs_path.specs.declared.call.Call.TheVariants as calls
use Rattle.kfs_path.specs.declared.call.Errno.{Errno}
use Rattle.kfs_path.specs.declared.call.Flags.{Flags}
use Rattle.kfs_path.specs.declared.call.Reply.TheVariants as replies
use Rattle.kfs_model.specs.declared.Node.TheVariants.{File}
use Rattle.kfs_model.specs.declared.Line.TheVariants as lines
use Rattle.kfs_model.specs.declared.Answer.TheVariants as answers
use Rattle.kfs_model.specs.Tree.{Tree, with_new, with_node, resized}
use Rattle.kfs_model.specs.Step.{settled, step, open_path, opens}
use Rattle.kfs_model.specs.Desk.{Desk}
use Rattle.kfs_model.specs.Change.{node_open}
use Rattle.kfs_model.specs.Life.{Live}
use Rattle.kfs_shows.proofs.Making.{fresh_file}
use Rattle.kfs_tx.specs.Tx.{seen}
use Rattle.kfs_core.specs.declared.room.Space.{Space}
use Rattle.kfs_core.proofs.ResizingJudges.{charge_resized, chunks_resized}
use Rattle.kfs_core.specs.Flat.{Where}
use Rattle.kfs_core.specs.Making.{parent_of, created, CreateFault}
use Rattle.kfs_posix.specs.declared.open_files.OpenFile.{OpenFile}
use Rattle.kfs_posix.specs.Opens.{Opens, desk_of, opened_as, relengthed}
use Rattle.kfs_posix.specs.Opening.{Opening, New, There, Cut, opened_file, open_in}
use Rattle.kfs_posix.specs.Holding.{Holds}
use Rattle.kfs_posix.specs.Volume.{Volume, limits_of, cause_of}
use Rattle.kfs_posix.specs.Showing.{ShowsLive, GoesOn}
use Rattle.kfs_posix.proofs.Held.{world_in, new_holds}
use Rattle.kfs_posix.proofs.OpenJudges.{Meaning, meaning, space_for, open_same, cut_fits, opened_desk, opened_holds, opened_node, fresh_knows, there_weighs, new_weighs, cut_weighs}
use Rattle.kfs_posix.proofs.WriteJudges.{relengthed_desk}
use Rattle.kfs_posix.proofs.WriteEvents.{space_of}
use Rattle.kfs_posix.proofs.ResizeGoes.{Lengthens}
use Rattle.kfs_posix.proofs.ResizeEvents.{length_weighs, length_holds}
use Rattle.kfs_posix.proofs.Adding.{Adds, add_goes, add_falls}
use Rattle.kfs_posix.proofs.Going.{spare, spare_free, idle_goes, turn_goes, Refuses}
use Rattle.kfs_posix.proofs.Calls.{stands_of, any_cause}
use Rattle.kfs_core.specs.declared.fault.CoreFault.TheVariants.{Device}

module _ (old : Volume) (path : List ℕ) (flags : Flags) where
  abbrev call : Call
  call = calls.Open path flags

  abbrev o : Opens
  o = old.files

  abbrev pub judge : Result Opening Errno
  judge = open_in (seen old.tx) (space_of old) o path flags

  -- what the judge means in the tree that is shown
  means : (d : ℕ) (live : Live) (sh : ShowsLive old live) → Meaning (seen old.tx) live.world.tree (stands_of old live sh) (limits_of old) sh.room o d flags (open_path (limits_of old) d (world_in live.world.tree o) path flags) judge
  means d live sh =
      let t = live.world.tree in
      let m = seen old.tx in
      let stands = stands_of old live sh in
      let effect = open_path (limits_of old) d (world_in t o) path flags in
      let space_is : space_for (limits_of old) t ≡ space_of old = λ i. record { keys = old.keys; pages = old.pages; charge = sym sh.charged i; chunks = sym sh.chunked i } in
      subst (λ (s : Space). Meaning m t stands (limits_of old) sh.room o d flags effect (open_in m s o path flags)) space_is
      (meaning m t stands (limits_of old) sh.room o d flags effect (open_in m (space_for (limits_of old) t) o path flags) (open_same m t stands (limits_of old) sh.room o d flags path))

  means_at : (d : ℕ) (live : Live) (sh : ShowsLive old live) (r : Result Opening Errno) → judge ≡ r → Meaning (seen old.tx) live.world.tree (stands_of old live sh) (limits_of old) sh.room o d flags (open_path (limits_of old) d (world_in live.world.tree o) path flags) r
  means_at d live sh r is = subst (Meaning (seen old.tx) live.world.tree (stands_of old live sh) (limits_of old) sh.room o d flags (open_path (limits_of old) d (world_in live.world.tree o) path flags)) is (means d live sh)

  stepped : (d : ℕ) (live : Live) (sh : ShowsLive old live) → step (limits_of old) d live.world call ≡ settled (world_in live.world.tree o) (open_path (limits_of old) d (world_in live.world.tree o) path flags)
  stepped d live sh = λ i. step (limits_of old) d (record { tree = live.world.tree; desk = sh.desk i }) call

  -- the tree t with the node n opened
  opened_is : (t u : Tree) (fd d : ℕ) (file : OpenFile) → file.it ≡ (opened_file file.it.node true 0 flags).it → opens (world_in t o) u fd d file.it.node flags ≡ record { world = record { tree = u; desk = desk_of (opened_as o fd d file) }; reply = replies.Number fd }
  opened_is t u fd d file same =
      (λ i. record { world = record { tree = u; desk = record { descriptors = put nat_cmp fd d o.descriptors; descriptions = put nat_cmp d (sym same i) (desk_of o).descriptions } }; reply = replies.Number fd })
      ∙ (λ i. record { world = record { tree = u; desk = sym (opened_desk o fd d file) i }; reply = replies.Number fd })

  pub open_refused : (e : Errno) → old.down ≡ None → judge ≡ Err e → GoesOn old (lines.Call call) (answers.Reply (replies.Err e)) old
  open_refused e up is = idle_goes old call (replies.Err e) up (λ w x. refl) refl (λ live sh.
      stepped (spare old) live sh ∙ ap (settled (world_in live.world.tree o)) (means_at (spare old) live sh (Err e) is) ∙ (λ i. record { world = record { tree = live.world.tree; desk = sym sh.desk i }; reply = replies.Err e }))

  pub open_there_goes : (fd d : ℕ) (file : OpenFile) → find nat_cmp d o.files ≡ None → old.down ≡ None → judge ≡ Ok (There fd file) → GoesOn old (lines.Call call) (answers.Reply (replies.Number fd)) (record old { files = opened_as o fd d file })
  open_there_goes fd d file free up is = turn_goes old (opened_as o fd d file) call (replies.Number fd) d free up refl (λ live sh.
      let h = means_at d live sh (Ok (There fd file)) is in
      let t = live.world.tree in (
        stepped d live sh ∙ ap (settled (world_in t o)) h.2 ∙ opened_is t t fd d file h.3,
        there_weighs live.world path flags (desk_of (opened_as o fd d file)) fd,
        opened_holds t o fd d file sh.holds h.0 free h.1,
      ))

  abbrev pub new_file : OpenFile
  new_file = opened_file old.tx.next true 0 flags

  adds : (fd d : ℕ) (v : Where) → find nat_cmp d o.files ≡ None → judge ≡ Ok (New v fd) → (live : Live) → ShowsLive old live → Adds old (File []) call (replies.Number fd) (opened_as o fd d new_file) d v live
  adds fd d v free is live sh =
      let h = means_at d live sh (Ok (New v fd)) is in
      let t = live.world.tree in
      let place = h.0 in
      let u = with_new t place (File []) in
      let file_is : opened_file t.next true 0 flags ≡ new_file = ap (λ n. opened_file n true 0 flags) (sym sh.next) in
      record {
        place = place;
        spot = h.2;
        nothing = h.3;
        step_is = stepped d live sh ∙ ap (settled (world_in t o)) h.6 ∙ opened_is t u fd d (opened_file t.next true 0 flags) refl
            ∙ (λ i. record { world = record { tree = u; desk = desk_of (opened_as o fd d (file_is i)) }; reply = replies.Number fd });
        weighs = new_weighs live.world path flags place (File []) (desk_of (opened_as o fd d new_file)) fd;
        holds = subst (λ f. Holds (opened_as o fd d f) u) file_is (opened_holds u o fd d (opened_file t.next true 0 flags) (new_holds t o place (File []) sh.tree h.4 sh.holds) h.1 free (fresh_knows t place flags));
        fits = let c = sh.charged in let f = h.5 in omega arith;
      }

  pub open_new_goes : (fd d : ℕ) (v : Where) → find nat_cmp d o.files ≡ None → old.down ≡ None → old.tx.next + 1 < 2 ^ 63 → old.tx.changes + 1 < 2 ^ 63 → judge ≡ Ok (New v fd)
      → GoesOn old (lines.Call call) (answers.Reply (replies.Number fd)) (record old { tx = created old.tx (parent_of v) v.name; charge = old.charge + 2; files = opened_as o fd d new_file })
  open_new_goes fd d v free up low count is = add_goes old 2 (File []) fresh_file refl refl v low count call (replies.Number fd) (opened_as o fd d new_file) d free up (adds fd d v free is)

  -- ---- a file that is cut to no bytes

  abbrev pub cut_files : ℕ → ℕ → OpenFile → Opens
  cut_files fd d file = relengthed (opened_as o fd d file) file.it.node 0

  pub cuts : (fd d : ℕ) (file : OpenFile) (was : ℕ) → find nat_cmp d o.files ≡ None → judge ≡ Ok (Cut fd file was) → (live : Live) → ShowsLive old live → Lengthens old file.it.node was 0 call (replies.Number fd) (cut_files fd d file) d live
  cuts fd d file was free is live sh =
      let h = means_at d live sh (Ok (Cut fd file was)) is in
      let t = live.world.tree in
      let n = file.it.node in
      let desk_is = relengthed_desk (opened_as o fd d file) n 0 in
      record {
        bytes = h.0;
        file = h.3;
        was_is = h.4;
        step_is = stepped d live sh ∙ ap (settled (world_in t o)) h.5 ∙ opened_is t (with_node t n (File [])) fd d file h.6
            ∙ (λ i. record { world = record { tree = with_node t n (File []); desk = sym desk_is i }; reply = replies.Number fd });
        weighs = cut_weighs live.world path flags n (File (resized h.0 0)) (desk_of (cut_files fd d file)) fd (ap (λ (desk : Desk). node_open desk fd) desk_is ∙ opened_node o fd d file)
            ∙ length_weighs t n h.0 was 0 h.3 h.4;
        holds = length_holds t (opened_as o fd d file) n h.0 0 h.3 (opened_holds t o fd d file sh.holds h.1 free h.2);
        short = omega arith;
        room = (λ i. nat_le (charge_resized t sh.tree n h.0 h.3 0 i) old.keys && nat_le (chunks_resized t sh.tree n h.0 h.3 0 i) old.pages) ∙ cut_fits (limits_of old) t sh.room (length h.0);
      }

  pub open_falls : (new : Volume) (fd : ℕ) (v : Where) (fault : DeviceFault) → old.down ≡ None → new.down ≡ Some (cause_of fault) → limits_of new ≡ limits_of old → old.tx.next + 1 < 2 ^ 63 → old.tx.changes + 1 < 2 ^ 63 → judge ≡ Ok (New v fd)
      → CreateFault old.tx (parent_of v) v.name fault new.tx.machine → Refuses old call (Device fault) new
  open_falls new fd v fault up down same low count is h =
      add_falls old 2 (File []) fresh_file refl refl v low count new call (replies.Number fd) (opened_as o fd (spare old) new_file) fault up down same (λ w cause. any_cause w call refl refl refl cause) (adds fd (spare old) v (spare_free old) is) h
