-- What giving a file a length is judged by over the objects, and what it leaves.
use Rattle.std.proofs.Common.{◌≡◌, ◌≢◌, ℕ, ◌<◌, ◌≤◌, ◌+◌, ◌-◌, ◌^◌, ◌&&◌, not, true, false, Bool, refl, sym, ◌∙◌, ap, subst, arith, List, [], ◌++◌, length, take, replicate, Some, Ok, nat_lt, nat_le}
use Rattle.std.specs.Prelude.{pos}
use Rattle.std.specs.FinMap as objects
use Rattle.std.proofs.lemmas.Bool.Decides.{nat_tests}
use Rattle.std.proofs.lemmas.List.{take-append-le, take_all}
use Rattle.kv_device.specs.Objects.{Objects}
use Rattle.kfs_objects.specs.Keys.{inode_key, chunk_key}
use Rattle.kfs_objects.specs.Records.{inode_value}
use Rattle.kfs_path.specs.declared.call.Errno.TheVariants.{EFBIG, ENOSPC}
use Rattle.kfs_model.specs.declared.Node.TheVariants.{File}
use Rattle.kfs_model.specs.Ladder.{◌>>=◌, ◌>>◌, ◌when◌}
use Rattle.kfs_model.specs.Tree.{Tree, Limits, charge, chunks, with_node, resized, has_room, greatest_length, IsTree, node_of}
use Rattle.kfs_model.specs.Step.{World, content, lengthened}
use Rattle.kfs_model.proofs.Fits.{charge_written}
use Rattle.kfs_laws.proofs.Lookups.{number_put_same}
use Rattle.kfs_shows.specs.Shows.{IsPiece}
use Rattle.kfs_shows.specs.Laws.{PutsContent}
use Rattle.kfs_shows.specs.Sweeping.{ShowsWorld, with_tree}
use Rattle.kfs_shows.proofs.Content.{still_tree, still_shows, node_before}
use Rattle.kfs_shows.proofs.KeysApart.{kinds}
use Rattle.kfs_shows.proofs.Lookups.{key_put, key_other}
use Rattle.kfs_tx.specs.Tx.{Tx, IsReady, seen}
use Rattle.kfs_tx.proofs.Seeing.{ready_put, seen_put, keys_put}
use Rattle.kfs_file.proofs.Resizing.{length_resized}
use Rattle.kfs_core.specs.declared.room.Space.{Space}
use Rattle.kfs_core.specs.Stands.{Stands}
use Rattle.kfs_core.specs.Files.{with_length}
use Rattle.kfs_core.specs.Room.{chunks_for}
use Rattle.kfs_core.specs.Resizing.{resized_fits, resize_in, keys_cut, PutsLength}
use Rattle.kfs_core.proofs.FileJudges.{node_low, file_there, content_is, holds_file}
use Rattle.kfs_core.proofs.Fitting.{IsSpaceOf, chunks_written}
use Rattle.kfs_core.proofs.RemovingEffects.{Rests}
use Rattle.kfs_core.proofs.Ladders.{SameAs, same_when}

-- the keys and the pages that are taken after a new length
module _ (t : Tree) (tree : IsTree t) (n : ℕ) (bytes : List ℕ) (file : node_of t n ≡ Some (File bytes)) (size : ℕ) where
  pub charge_resized : charge (with_node t n (File (resized bytes size))) ≡ charge t + chunks_for size - chunks_for (length bytes)
  charge_resized =
      let e = charge_written t n bytes (resized bytes size) tree.sorted_nodes file in
      let l = length_resized bytes size in
      omega arith

  pub chunks_resized : chunks (with_node t n (File (resized bytes size))) ≡ chunks t + chunks_for size - chunks_for (length bytes)
  chunks_resized =
      let e = chunks_written t n bytes (resized bytes size) tree.sorted_nodes file in
      let l = length_resized bytes size in
      omega arith

both_not : (b : Bool) → not b ≡ false → b ≡ true
both_not true e = refl
both_not false e = absurd (cc)

module _ (m : Objects) (t : Tree) (stands : Stands m t) (n : ℕ) (bytes : List ℕ) (file : node_of t n ≡ Some (File bytes)) where
  -- the tree that the definition leaves, which has room, and the length that the code found
  abbrev pub ResizesTree : Limits → ℕ → Tree → ℕ → Type 0
  ResizesTree k size u was = (u ≡ with_node t n (File (resized bytes size))) × (was ≡ length bytes) × (has_room k u ≡ true) × (size ≤ greatest_length)

  pub resize_same : (k : Limits) (space : Space) (size : ℕ) → IsSpaceOf space k t → SameAs (ResizesTree k size) (lengthened k t n (pos size)) (resize_in m space n size)
  resize_same k space size is =
      let keys : charge (with_node t n (File (resized bytes size))) ≡ space.charge + chunks_for size - chunks_for (length bytes) = charge_resized t stands.tree n bytes file size ∙ ap (λ c. c + chunks_for size - chunks_for (length bytes)) (sym is.charge) in
      let pages : chunks (with_node t n (File (resized bytes size))) ≡ space.chunks + chunks_for size - chunks_for (length bytes) = chunks_resized t stands.tree n bytes file size ∙ ap (λ c. c + chunks_for size - chunks_for (length bytes)) (sym is.chunks) in
      let room : has_room k (with_node t n (File (resized (content t n) size))) ≡ resized_fits space (length bytes) size =
      ap (λ b. has_room k (with_node t n (File (resized b size)))) (content_is m t stands n bytes file) ∙ (λ i. nat_le (keys i) (sym is.keys i) && nat_le (pages i) (sym is.pages i)) in
      subst (λ r. SameAs (ResizesTree k size) (lengthened k t n (pos size)) (r >>= λ was. (EFBIG when nat_lt greatest_length size) >> ((ENOSPC when not (resized_fits space was size)) >> Ok was))) (sym (file_there m t stands n bytes file))
      (same_when (ResizesTree k size) EFBIG (nat_lt greatest_length size) (nat_lt greatest_length size) _ _ refl (λ short.
      let within : size ≤ greatest_length = let h = short in grind (arith, nat_tests) in
      same_when (ResizesTree k size) ENOSPC (not (has_room k (with_node t n (File (resized (content t n) size))))) (not (resized_fits space (length bytes) size)) (Ok (with_node t n (File (resized (content t n) size)))) (Ok (length bytes)) (ap not room)
      (λ enough. (ap (λ b. with_node t n (File (resized b size))) (content_is m t stands n bytes file), refl, both_not (has_room k (with_node t n (File (resized (content t n) size)))) enough, within))))

-- the same length leaves the same bytes
same_length : (bytes : List ℕ) → resized bytes (length bytes) ≡ bytes
same_length bytes =
    let none : length bytes - length bytes ≡ 0 = omega arith in
    let whole : length bytes ≤ length bytes = omega arith in
    ap (λ k. take (length bytes) (bytes ++ replicate k 0)) none ∙ take-append-le (length bytes) bytes [] whole ∙ take_all (length bytes) bytes whole

-- a file that keeps its length keeps its content
pub resized_stays : (t : Tree) → IsTree t → (n : ℕ) (bytes : List ℕ) → node_of t n ≡ Some (File bytes) → with_node t n (File (resized bytes (length bytes))) ≡ t
resized_stays t tree n bytes file =
    let nodes = number_put_same n (File bytes) t.nodes tree.sorted_nodes file in
    ap (λ b. with_node t n (File b)) (same_length bytes) ∙ (λ i. record { names = t.names; nodes = nodes i; next = t.next })

-- the objects after a file got another length
module _ (r : Tx) (ready : IsReady r) (w : World) (sh : ShowsWorld (seen r) w) (low : w.tree.next ≤ 2 ^ 63) (n : ℕ) (bytes : List ℕ) (file : node_of w.tree n ≡ Some (File bytes))
    (size : ℕ) (short : size ≤ greatest_length) (put : Tx) (puts : PutsLength r n (length bytes) size put) where
  stands : Stands (seen r) w.tree
  stands = record { tree = sh.tree; shows = sh.shows; low = low }

  low_n : n < 2 ^ 64
  low_n = node_low (seen r) w.tree stands n (File bytes) file

  put_ready : IsReady put
  put_ready = puts.resizes.ready ready

  sees : seen (with_length put n size) ≡ objects.insert (seen put) (inode_key n) (inode_value 2 size)
  sees = seen_put put (inode_key n) (inode_value 2 size) put_ready

  sees_other : (q : List ℕ) → q ≢ inode_key n → objects.get (seen (with_length put n size)) q ≡ objects.get (seen put) q
  sees_other q d = ap (λ m. objects.get m q) sees ∙ key_other (seen put) (inode_key n) (inode_value 2 size) q d

  puts_content : PutsContent (seen r) (seen (with_length put n size)) n (resized bytes size)
  puts_content = record {
    inode = ap (λ m. objects.get m (inode_key n)) sees ∙ key_put (seen put) (inode_key n) (inode_value 2 size) ∙ ap (λ l. Some (inode_value 2 l)) (sym (length_resized bytes size));
    pieces = λ c lt. subst (λ o. IsPiece o (resized bytes size) c) (sym (sees_other (chunk_key n c) (kinds 100 105 _ _ (λ e. omega arith))))
        ((puts.resizes.holds bytes ready low_n refl (holds_file (seen r) w.tree stands n bytes file)).pieces c lt);
    others = λ q d other. sees_other q d ∙ puts.resizes.others q ready other;
  }

  fits : length (resized bytes size) ≤ greatest_length
  fits = let l = length_resized bytes size in omega arith

  pub resized_rests : Rests r (with_length put n size) (keys_cut (length bytes) size + 1)
  resized_rests = record {
    ready = λ h. ready_put put (inode_key n) (inode_value 2 size) (puts.resizes.ready h);
    few = λ h. let a = puts.keys h in let b = keys_put put (inode_key n) (inode_value 2 size) (puts.resizes.ready h) in omega arith;
    same = ap (λ (x : Tx). record x { machine = record x.machine { pending = (with_length put n size).machine.pending } }) puts.resizes.same;
  }

  pub resized_shows : ShowsWorld (seen (with_length put n size)) (with_tree w (with_node w.tree n (File (resized bytes size))))
  resized_shows = record {
    tree = still_tree w.tree sh.tree n bytes (resized bytes size) file fits;
    shows = still_shows w.tree sh.tree n bytes (resized bytes size) file (seen r) (seen (with_length put n size)) sh.shows low_n puts_content;
    opened = λ k x e none. let y = node_before w.tree sh.tree n bytes (resized bytes size) file k x e in sh.opened k y.0 y.1 none;
  }
