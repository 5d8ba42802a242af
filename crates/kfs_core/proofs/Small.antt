-- The keys that each change adds to its transaction.
use Rattle.std.proofs.Common.{◌≡◌, ℕ, ◌<◌, ◌≤◌, ◌+◌, ◌-◌, ◌/◌, ◌&&◌, ◌||◌, true, false, cond, Bool, refl, ◌∙◌, ap, subst, arith, List, length, take, Option, Some, None, Result, Ok, not, nat_lt, nat_le, ◌==◌}
use Rattle.std.specs.Prelude.{IfSome}
use Rattle.std.specs.List.{list_any}
use Rattle.std.proofs.lemmas.Bool.Decides.{nat_tests}
use Rattle.std.proofs.lemmas.List.{length-take-le}
use Rattle.std.proofs.lemmas.Option.{same_Some}
use Rattle.kv_device.specs.Objects.{Objects}
use Rattle.kfs_objects.specs.Keys.{inode_key, entry_key, super_key, orphan_key}
use Rattle.kfs_objects.specs.Records.{inode_value, entry_value, super_value}
use Rattle.kfs_path.specs.declared.call.Errno.{Errno}
use Rattle.kfs_path.specs.declared.call.Errno.TheVariants.{ENOENT, ENOTDIR, EPERM, EBUSY, EINVAL, EISDIR, ENOTEMPTY, EFBIG, ENOSPC}
use Rattle.kfs_model.specs.Ladder.{◌>>=◌, ◌>>◌, ◌when◌, bind_ok, then_ok}
use Rattle.kfs_model.specs.Tree.{greatest_length, is_dot, is_dot_dot}
use Rattle.kfs_model.specs.Change.{spanned}
use Rattle.kfs_model.specs.Step.{Route, is_root, ends_by, ends_in_dots, or_else}
use Rattle.kfs_tx.specs.Tx.{Tx, IsReady, is_full, seen, changed_keys, deleted_in, counted, committed}
use Rattle.kfs_tx.proofs.Seeing.{ready_put, keys_put, ready_committed, keys_committed}
use Rattle.kfs_file.specs.Contents.{touched}
use Rattle.kfs_core.specs.declared.room.Space.{Space}
use Rattle.kfs_core.specs.Clearing.{IsFresh}
use Rattle.kfs_core.specs.Files.{PutsBytes, file_at, write_in, with_length}
use Rattle.kfs_core.specs.Flat.{Where, at_root, walk_in, found_in, inode_in}
use Rattle.kfs_core.specs.Making.{with_inode, with_entry}
use Rattle.kfs_core.specs.Removing.{Leaf, Goes, Unnames, chunks_for, chunks_lost, chunks_gone, file_to_go, dir_to_go, has_names, leaf_at, unlink_in, rmdir_in, release_at}
use Rattle.kfs_core.specs.Renaming.{Move, Replaces, chunks_replaced, rename_in, from_in, onto_in, clear_in, move_at, needs_dir, is_same_spot, is_dir_found, is_file_found, isnt_empty_found, is_long_found, with_moved}
use Rattle.kfs_core.specs.Resizing.{PutsLength, keys_cut, resize_in, resize_weight, resized_fits}
use Rattle.kfs_core.specs.Room.{fits_in, grown}
use Rattle.kfs_core.specs.Bounds.{IsLight, IsSmall, most_keys}
use Rattle.kfs_core.proofs.Dropped.{Follows, goes_follows, follows_deleted}
use Rattle.kfs_core.proofs.FileEffects.{put_numbers, length_ready, length_keys, spanned_is}
use Rattle.kfs_core.proofs.Fresh.{fresh_ready, fresh_keys}
use Rattle.kfs_core.proofs.Moving.{replaces_follows}
use Rattle.kfs_core.proofs.Naming.{follows_none, follows_put, unnames_follows}
use Rattle.kfs_core.proofs.Pieces.{ok_is, or_false}

-- ---- one change

-- what is put takes at most k keys more, and weighs more than that
counts_small : (old mid : Tx) (n next k : ℕ) → IsLight old → IsReady mid → mid.weight ≡ old.weight → changed_keys mid ≤ changed_keys old + k → k + 1 ≤ n → n ≤ 260 → IsSmall mid n next
counts_small old mid n next k light ready weight few within most = record {
  keys = let a = one_more in let b = light.few in let c = light.light in omega arith;
  after = by (is_full (mid.since + 1) (mid.weight + n)) refl;
}
  where
    one_more : changed_keys (counted mid n next) ≤ changed_keys mid + 1
    one_more = keys_put mid super_key (super_value (mid.changes + 1) next) ready

    ready_then : IsReady (counted mid n next)
    ready_then = let h = ready_put mid super_key (super_value (mid.changes + 1) next) ready in record { up = h.up; alone = h.alone }

    by : (f : Bool) → is_full (mid.since + 1) (mid.weight + n) ≡ f → IsLight (cond f (committed (counted mid n next)) (counted mid n next))
    by true e = record {
      ready = ready_committed (counted mid n next) ready_then;
      light = omega arith;
      few = let h = keys_committed (counted mid n next) ready_then in omega arith;
    }
    by false e = record {
      ready = ready_then;
      light = let h : nat_le 256 (mid.weight + n) ≡ false = (or_false (nat_le 64 (mid.since + 1)) (nat_le 256 (mid.weight + n)) e).1 in grind (arith, nat_tests);
      few = let a = one_more in let b = light.few in omega arith;
    }

follows_small : (old mid : Tx) (n next k : ℕ) → IsLight old → Follows old mid k → k + 1 ≤ n → n ≤ 260 → IsSmall mid n next
follows_small old mid n next k light follows within most = counts_small old mid n next k light (follows.ready light.ready) (ap (λ (r : Tx). r.weight) follows.same) (follows.few light.ready) within most

pub commit_small : (r : Tx) → IsLight r → (changed_keys r ≤ most_keys) × IsLight (committed r)
commit_small r light = (
  (let a = light.few in let b = light.light in omega arith),
  record { ready = ready_committed r light.ready; light = omega arith; few = let h = keys_committed r light.ready in omega arith },
)

-- ---- a new node

pub making_small : (r : Tx) (kind parent : ℕ) (name : List ℕ) → IsLight r → IsSmall (with_entry r kind parent name) 4 (r.next + 1)
making_small r kind parent name light =
    let one = follows_put r r (inode_key r.next) (inode_value kind 0) 0 (follows_none r) in
    follows_small r (with_entry r kind parent name) 4 (r.next + 1) 2 light (follows_put r (with_inode r kind) (entry_key parent name) (entry_value r.next) 1 one) (omega arith) (omega arith)

-- ---- the bytes of a file

-- only a file of at most the greatest length is told
file_short : (o : Option (ℕ × ℕ)) (size : ℕ) → file_at o ≡ Ok size → size ≤ greatest_length
file_short None size e = absurd (cc)
file_short (Some (kind, long)) size e = by (nat_lt greatest_length long) refl (then_ok (EISDIR when (kind == 1)) ((EFBIG when nat_lt greatest_length long) >> Ok long) size e)
  where
    by : (b : Bool) → nat_lt greatest_length long ≡ b → ((EFBIG when b) >> Ok long) ≡ Ok size → size ≤ greatest_length
    by true f g = absurd (cc)
    by false f g = let same : long ≡ size = ok_is long size g in grind (arith, nat_tests)

-- where writing isn't refused, some bytes fit
some_fit : (m : Objects) (space : Space) (node offset count size : ℕ) → write_in m space node offset count ≡ Ok size → 0 < fits_in space size offset count
some_fit m space node offset count size e =
    let a = bind_ok (file_at (inode_in m node)) (λ size. (EFBIG when nat_le greatest_length offset) >> ((ENOSPC when (fits_in space size offset count == 0)) >> Ok size)) size e in
    by a.0 (fits_in space a.0 offset count == 0) refl (then_ok (EFBIG when nat_le greatest_length offset) ((ENOSPC when (fits_in space a.0 offset count == 0)) >> Ok a.0) size a.2)
  where
    positive : (n : ℕ) → (n == 0) ≡ false → 0 < n
    positive n f = grind (arith, nat_tests)

    by : (found : ℕ) (b : Bool) → (fits_in space found offset count == 0) ≡ b → ((ENOSPC when b) >> Ok found) ≡ Ok size → 0 < fits_in space size offset count
    by found true f g = absurd (cc)
    by found false f g = subst (λ s. 0 < fits_in space s offset count) (ok_is found size g) (positive (fits_in space found offset count) f)

within_file : (space : Space) (size offset count : ℕ) → 0 < fits_in space size offset count → offset + fits_in space size offset count ≤ greatest_length
within_file space size offset count some = omega arith

fits_within : (space : Space) (size offset count : ℕ) → fits_in space size offset count ≤ count
fits_within space size offset count = omega arith

few_spanned : (p j : ℕ) → 0 < j → p + j ≤ greatest_length → 2 + spanned p j ≤ 260
few_spanned p j some le = omega arith

pub writing_small : (r put : Tx) (space : Space) (node offset size : ℕ) (given : List ℕ) → IsLight r → write_in (seen r) space node offset (length given) ≡ Ok size
    → (some : List ℕ) → some ≡ take (fits_in space size offset (length given)) given → PutsBytes r node offset some put → IsSmall (with_length put node (grown size offset (length some))) (2 + spanned offset (length some)) put.next
writing_small r put space node offset size given light judged some is puts =
    let n = fits_in space size offset (length given) in
    let long : length some ≡ n = ap length is ∙ length-take-le n given (fits_within space size offset (length given)) in
    let first = some_fit (seen r) space node offset (length given) size judged in
    let fits = within_file space size offset (length given) first in
    let whole = grown size offset (length some) in
    let keys = length_keys r put node offset some puts light.ready whole in
    let spans = spanned_is offset (length some) (omega arith) in
    counts_small r (with_length put node whole) (2 + spanned offset (length some)) put.next (touched offset (length some) + 1) light
    (length_ready r put node offset some puts light.ready whole) (put_numbers r put node offset some puts whole).weight (omega arith) (omega arith) (few_spanned offset (length some) (omega arith) (omega arith))

-- ---- another length

lengths_short : (m : Objects) (space : Space) (node now size : ℕ) → resize_in m space node now ≡ Ok size → (size ≤ greatest_length) × (now ≤ greatest_length)
lengths_short m space node now size e =
    let a = bind_ok (file_at (inode_in m node)) (λ size. (EFBIG when nat_lt greatest_length now) >> ((ENOSPC when not (resized_fits space size now)) >> Ok size)) size e in
    by a.0 a.1 (nat_lt greatest_length now) (not (resized_fits space a.0 now)) refl a.2
  where
    by : (found : ℕ) → file_at (inode_in m node) ≡ Ok found → (a b : Bool) → nat_lt greatest_length now ≡ a → ((EFBIG when a) >> ((ENOSPC when b) >> Ok found)) ≡ Ok size → (size ≤ greatest_length) × (now ≤ greatest_length)
    by found there true b f g = absurd (cc)
    by found there false true f g = absurd (cc)
    by found there false false f g = (subst (λ s. s ≤ greatest_length) (ok_is found size g) (file_short (inode_in m node) found there), grind (arith, nat_tests))

cut_light : (was now : ℕ) → was ≤ greatest_length → resize_weight was now ≤ 260
cut_light was now le = by (nat_lt now was)
  where
    by : (b : Bool) → 2 + cond b ((was + 4095) / 4096 - now / 4096) 0 ≤ 260
    by true = omega arith
    by false = omega arith

pub resizing_small : (r put : Tx) (space : Space) (node size now : ℕ) → IsLight r → resize_in (seen r) space node now ≡ Ok size → PutsLength r node size now put → IsSmall (with_length put node now) (resize_weight size now) put.next
resizing_small r put space node size now light judged puts =
    let short = lengths_short (seen r) space node now size judged in
    let ready = puts.resizes.ready light.ready in
    let first = puts.keys light.ready in
    let last = keys_put put (inode_key node) (inode_value 2 now) ready in
    counts_small r (with_length put node now) (resize_weight size now) put.next (keys_cut size now + 1) light
    (ready_put put (inode_key node) (inode_value 2 now) ready) (ap (λ (x : Tx). x.weight) puts.resizes.same) (omega arith) (omega arith) (cut_light size now short.0)

-- ---- names that go

lost_light : (size : ℕ) (open_now : Bool) → size ≤ greatest_length → 4 + chunks_lost size open_now ≤ 260
lost_light size true le = omega arith
lost_light size false le = omega arith

unnaming_small : (r put : Tx) (leaf : Leaf) (open_now : Bool) → IsLight r → leaf.size ≤ greatest_length → Unnames r leaf open_now put → IsSmall put (4 + chunks_gone leaf open_now) put.next
unnaming_small r put leaf open_now light short unnames =
    follows_small r put (4 + chunks_gone leaf open_now) put.next (2 + chunks_gone leaf open_now) light (unnames_follows r put leaf open_now unnames) (omega arith) (lost_light leaf.size open_now short)

unlinked_short : (m : Objects) (route : Route) (leaf : Leaf) → unlink_in m route ≡ Ok leaf → leaf.size ≤ greatest_length
unlinked_short m route leaf e =
    let a = then_ok (EPERM when (ends_in_dots route.pieces || is_root route.pieces)) (walk_in m at_root route.pieces >>= λ w. file_to_go w (found_in m w.node) route.trailing) leaf e in
    let b = bind_ok (walk_in m at_root route.pieces) (λ w. file_to_go w (found_in m w.node) route.trailing) leaf a in
    by b.0 (found_in m b.0.node) b.2
  where
    short : (w : Where) (n size : ℕ) (b : Bool) → nat_lt greatest_length size ≡ b → ((EFBIG when b) >> Ok (leaf_at w n size)) ≡ Ok leaf → leaf.size ≤ greatest_length
    short w n size true f g = absurd (cc)
    short w n size false f g = let le : size ≤ greatest_length = grind (arith, nat_tests) in subst (λ (l : Leaf). l.size ≤ greatest_length) (ok_is (leaf_at w n size) leaf g) le

    by : (w : Where) (o : Option (ℕ × ℕ × ℕ)) → file_to_go w o route.trailing ≡ Ok leaf → leaf.size ≤ greatest_length
    by w None e = absurd (cc)
    by w (Some (n, kind, size)) e = short w n size (nat_lt greatest_length size) refl
        (then_ok (ENOTDIR when route.trailing) ((EFBIG when nat_lt greatest_length size) >> Ok (leaf_at w n size)) leaf
        (then_ok (EPERM when (kind == 1)) ((ENOTDIR when route.trailing) >> ((EFBIG when nat_lt greatest_length size) >> Ok (leaf_at w n size))) leaf e))

removed_short : (m : Objects) (route : Route) (leaf : Leaf) → rmdir_in m route ≡ Ok leaf → leaf.size ≤ greatest_length
removed_short m route leaf e =
    let walks = walk_in m at_root route.pieces >>= λ w. dir_to_go m w (found_in m w.node) in
    let a = then_ok (EINVAL when ends_by is_dot route.pieces) ((ENOTEMPTY when ends_by is_dot_dot route.pieces) >> ((EBUSY when is_root route.pieces) >> walks)) leaf e in
    let b = then_ok (ENOTEMPTY when ends_by is_dot_dot route.pieces) ((EBUSY when is_root route.pieces) >> walks) leaf a in
    let c = then_ok (EBUSY when is_root route.pieces) walks leaf b in
    let d = bind_ok (walk_in m at_root route.pieces) (λ w. dir_to_go m w (found_in m w.node)) leaf c in
    by d.0 (found_in m d.0.node) d.2
  where
    by : (w : Where) (o : Option (ℕ × ℕ × ℕ)) → dir_to_go m w o ≡ Ok leaf → leaf.size ≤ greatest_length
    by w None e = absurd (cc)
    by w (Some (n, kind, size)) e =
        let last = then_ok (ENOTEMPTY when has_names m n) (Ok (leaf_at w n 0)) leaf (then_ok (ENOTDIR when not (kind == 1)) ((ENOTEMPTY when has_names m n) >> Ok (leaf_at w n 0)) leaf e) in
        subst (λ (l : Leaf). l.size ≤ greatest_length) (ok_is (leaf_at w n 0) leaf last) (omega arith)

pub unlinking_small : (r put : Tx) (route : Route) (leaf : Leaf) (open_now : Bool) → IsLight r → unlink_in (seen r) route ≡ Ok leaf → Unnames r leaf open_now put → IsSmall put (4 + chunks_gone leaf open_now) put.next
unlinking_small r put route leaf open_now light judged unnames = unnaming_small r put leaf open_now light (unlinked_short (seen r) route leaf judged) unnames

pub rmdir_small : (r put : Tx) (route : Route) (leaf : Leaf) (open_now : Bool) → IsLight r → rmdir_in (seen r) route ≡ Ok leaf → Unnames r leaf open_now put → IsSmall put (4 + chunks_gone leaf open_now) put.next
rmdir_small r put route leaf open_now light judged unnames = unnaming_small r put leaf open_now light (removed_short (seen r) route leaf judged) unnames

-- ---- an entry that moves

module _ (m : Objects) (from to : Route) (move : Move) where
  abbrev IsShortMove : Type 0
  IsShortMove = IfSome move.replaced (λ leaf. leaf.size ≤ greatest_length)

  -- what may be replaced is no longer than any file
  clear_short : (n : ℕ) (is_dir : Bool) (p q : Where) (o : Option (ℕ × ℕ × ℕ)) → is_long_found o ≡ false → move_at n p q o ≡ move → IsShortMove
  clear_short n is_dir p q None short is = subst (λ (x : Move). IfSome x.replaced (λ leaf. leaf.size ≤ greatest_length)) is tt
  clear_short n is_dir p q (Some (r, kind, size)) short is = let le : size ≤ greatest_length = grind (arith, nat_tests) in subst (λ (x : Move). IfSome x.replaced (λ leaf. leaf.size ≤ greatest_length)) is le

  clear_ok : (n : ℕ) (is_dir : Bool) (p q : Where) (o : Option (ℕ × ℕ × ℕ)) → clear_in m n is_dir p q o ≡ Ok (Some move) → IsShortMove
  clear_ok n is_dir p q o e = by (is_long_found o) refl
      (then_ok (ENOTEMPTY when isnt_empty_found m o) last (Some move)
      (then_ok (EISDIR when (not is_dir && is_dir_found o)) ((ENOTEMPTY when isnt_empty_found m o) >> last) (Some move)
      (then_ok (ENOTDIR when (is_dir && is_file_found o)) ((EISDIR when (not is_dir && is_dir_found o)) >> ((ENOTEMPTY when isnt_empty_found m o) >> last)) (Some move)
      (then_ok (EINVAL when list_any (λ k. k == n) q.above) ((ENOTDIR when (is_dir && is_file_found o)) >> ((EISDIR when (not is_dir && is_dir_found o)) >> ((ENOTEMPTY when isnt_empty_found m o) >> last))) (Some move) e))))
    where
      last : Result (Option Move) Errno
      last = (EFBIG when is_long_found o) >> Ok (Some (move_at n p q o))

      by : (b : Bool) → is_long_found o ≡ b → ((EFBIG when b) >> Ok (Some (move_at n p q o))) ≡ Ok (Some move) → IsShortMove
      by true f g = absurd (cc)
      by false f g = clear_short n is_dir p q o f (same_Some _ _ (ok_is (Some (move_at n p q o)) (Some move) g))

  onto_ok : (n : ℕ) (is_dir : Bool) (p q : Where) (o : Option (ℕ × ℕ × ℕ)) → onto_in m to p n is_dir q o ≡ Ok (Some move) → IsShortMove
  onto_ok n is_dir p q o e = by (is_same_spot p q) (then_ok (ENOTDIR when needs_dir is_dir to.trailing o) (cond (is_same_spot p q) (Ok None) (clear_in m n is_dir p q o)) (Some move) e)
    where
      by : (b : Bool) → cond b (Ok None) (clear_in m n is_dir p q o) ≡ Ok (Some move) → IsShortMove
      by true f = absurd (let bad : None ≡ Some move = ok_is None (Some move) f in cc)
      by false f = clear_ok n is_dir p q o f

  from_ok : (p : Where) (it : ℕ × ℕ × ℕ) → from_in m from to p it ≡ Ok (Some move) → IsShortMove
  from_ok p it e =
      let walks = walk_in m at_root to.pieces >>= λ q. onto_in m to p it.0 (it.1 == 1) q (found_in m q.node) in
      let a = then_ok (ENOTDIR when (from.trailing && not (it.1 == 1))) walks (Some move) e in
      let b = bind_ok (walk_in m at_root to.pieces) (λ q. onto_in m to p it.0 (it.1 == 1) q (found_in m q.node)) (Some move) a in
      onto_ok it.0 (it.1 == 1) p b.0 (found_in m b.0.node) b.2

  moved_short : rename_in m from to ≡ Ok (Some move) → IsShortMove
  moved_short e =
      let walks = walk_in m at_root from.pieces >>= λ p. or_else (found_in m p.node) ENOENT >>= from_in m from to p in
      let a = then_ok (EINVAL when (ends_in_dots from.pieces || ends_in_dots to.pieces)) ((EBUSY when (is_root from.pieces || is_root to.pieces)) >> walks) (Some move) e in
      let b = then_ok (EBUSY when (is_root from.pieces || is_root to.pieces)) walks (Some move) a in
      let c = bind_ok (walk_in m at_root from.pieces) (λ p. or_else (found_in m p.node) ENOENT >>= from_in m from to p) (Some move) b in
      let d = bind_ok (or_else (found_in m c.0.node) ENOENT) (from_in m from to c.0) (Some move) c.2 in
      from_ok c.0 d.0 d.2

replaced_light : (o : Option Leaf) (is_open : ℕ → Bool) → IfSome o (λ leaf. leaf.size ≤ greatest_length) → 4 + chunks_replaced o is_open ≤ 260
replaced_light None is_open h = omega arith
replaced_light (Some leaf) is_open h = lost_light leaf.size (is_open leaf.node) h

pub renaming_small : (r put : Tx) (from to : Route) (move : Move) (is_open : ℕ → Bool) → IsLight r → rename_in (seen r) from to ≡ Ok (Some move) → Replaces r move.replaced is_open put → IsSmall (with_moved put move) (4 + chunks_replaced move.replaced is_open) put.next
renaming_small r put from to move is_open light judged replaces =
    let c = chunks_replaced move.replaced is_open in
    let gone = follows_deleted r put (entry_key move.parent move.name) (1 + c) (replaces_follows r put move.replaced is_open replaces) in
    let new = follows_put r (deleted_in put (entry_key move.parent move.name)) (entry_key move.new_parent move.new_name) (entry_value move.node) (1 + c + 1) gone in
    follows_small r (with_moved put move) (4 + c) put.next (1 + c + 1 + 1) light new (omega arith) (replaced_light move.replaced is_open (moved_short (seen r) from to move judged))

-- ---- a node without a name

released_short : (o : Option (ℕ × ℕ)) (size : ℕ) → release_at o ≡ Ok size → size ≤ greatest_length
released_short None size e = absurd (cc)
released_short (Some (kind, long)) size e = by (nat_lt greatest_length long) refl e
  where
    by : (b : Bool) → nat_lt greatest_length long ≡ b → ((EFBIG when b) >> Ok long) ≡ Ok size → size ≤ greatest_length
    by true f g = absurd (cc)
    by false f g = let same : long ≡ size = ok_is long size g in grind (arith, nat_tests)

drop_follows : (r put : Tx) (node size : ℕ) → Goes r node size put → Follows r (deleted_in put (orphan_key node)) (chunks_for size + 1 + 1)
drop_follows r put node size goes = follows_deleted r put (orphan_key node) (chunks_for size + 1) (goes_follows r put node size goes)

pub releasing_small : (r put : Tx) (node size : ℕ) → IsLight r → release_at (inode_in (seen r) node) ≡ Ok size → Goes r node size put → IsSmall (deleted_in put (orphan_key node)) (4 + chunks_for size) put.next
releasing_small r put node size light judged goes =
    let short = released_short (inode_in (seen r) node) size judged in
    follows_small r (deleted_in put (orphan_key node)) (4 + chunks_for size) put.next (chunks_for size + 1 + 1) light (drop_follows r put node size goes) (omega arith) (lost_light size false short)

pub clearing_small : (r put : Tx) (node size : ℕ) → IsFresh r → size ≤ greatest_length → Goes r node size put → changed_keys (deleted_in put (orphan_key node)) ≤ most_keys
clearing_small r put node size fresh short goes = let few = (drop_follows r put node size goes).few (fresh_ready r fresh) in let none = fresh_keys r fresh in omega arith
