-- What the judges of removal answer over the objects is what the tree's definitions say.
use Rattle.std.proofs.Common.{◌≡◌, ℕ, ◌<◌, ◌||◌, ◌==◌, not, true, false, refl, sym, ◌∙◌, ap, subst, arith, List, [], ◌∷◌, ◌++◌, length, map, drop, Option, Some, None, is_some, Result, Ok, nat_lt}
use Rattle.std.specs.List.{AllByRecursion}
use Rattle.std.specs.Option.{option_map, option_and_then}
use Rattle.std.proofs.lemmas.Bool.Decides.{nat_tests}
use Rattle.std.proofs.lemmas.Option.{same_Some}
use Rattle.kv_device.specs.Objects.{Objects}
use Rattle.kfs_path.specs.declared.call.Errno.{Errno}
use Rattle.kfs_path.specs.declared.call.Errno.TheVariants.{ENOENT, ENOTDIR, EPERM, EBUSY, EINVAL, ENOTEMPTY, EFBIG}
use Rattle.kfs_path.specs.declared.call.Reply.TheVariants as replies
use Rattle.kfs_model.specs.declared.Node.{Node}
use Rattle.kfs_model.specs.declared.Node.TheVariants.{Dir, File}
use Rattle.kfs_model.specs.Ladder.{◌>>=◌, ◌>>◌, ◌when◌}
use Rattle.kfs_model.specs.Tree.{Place, Name, Tree, names_in, entry_at, walk, without_place, greatest_length, is_dot, is_dot_dot, IsName, number_at, node_of}
use Rattle.kfs_model.specs.Desk.{Desk}
use Rattle.kfs_model.specs.Step.{After, Route, syntax, swept, leaves_swept, unlink, rmdir_at, is_there, is_dir, is_file, has_dir, has_file, isnt_empty, is_root, ends_by, ends_in_dots}
use Rattle.kfs_laws.proofs.Moves.{listed}
use Rattle.kfs_laws.proofs.Walking.{neither_dots}
use Rattle.kfs_dir.specs.Directory.{names_under}
use Rattle.kfs_core.specs.Stands.{Stands}
use Rattle.kfs_core.specs.Flat.{Where, at_root, walk_in}
use Rattle.kfs_core.specs.Removing.{Leaf, leaf_at, has_names, file_to_go, dir_to_go, unlink_in, rmdir_in}
use Rattle.kfs_core.proofs.Pieces.{IsPart, or_false}
use Rattle.kfs_core.proofs.Ways.{kind_of, walks, root_spot}
use Rattle.kfs_core.proofs.Judges.{syntax_named, found_at, seen_as}
use Rattle.kfs_core.proofs.Children.{child_of, kids_names, pairs_same}
use Rattle.kfs_core.proofs.Ladders.{SameAs, same_when, same_right, same_walk}
use Rattle.kfs_core.proofs.Lasts.{IsLast, walk_last}

-- an entry of the tree that nothing lies below, and the node that it names
pub record IsLeaf (t : Tree) (place : Place) (leaf : Leaf) : Type 0 where
  pub up : Place
  pub is : place ≡ up ++ leaf.name ∷ []
  pub named : IsName leaf.name
  pub above : number_at t up ≡ Some leaf.parent
  pub dir : node_of t leaf.parent ≡ Some Dir
  pub at : number_at t place ≡ Some leaf.node
  pub node : Node
  pub there : node_of t leaf.node ≡ Some node
  pub size : leaf.size ≡ (kind_of node).1
  pub empty : (x : Name) → number_at t (place ++ x ∷ []) ≡ None

-- a node that is found is at its number
pub entry_parts : (t : Tree) (place : Place) (e : ℕ × Node) → entry_at t place ≡ Some e → (number_at t place ≡ Some e.0) × (node_of t e.0 ≡ Some e.1)
entry_parts t place e is = by (number_at t place) refl is
  where
    in_node : (n : ℕ) (x : Option Node) → node_of t n ≡ x → option_map (λ (node : Node). (n, node)) x ≡ Some e → (n ≡ e.0) × (node_of t n ≡ Some e.1)
    in_node n None f is = absurd (cc)
    in_node n (Some x) f is = let same = same_Some (n, x) e is in (ap (λ (z : ℕ × Node). z.0) same, f ∙ ap (λ (z : ℕ × Node). Some z.1) same)

    by : (o : Option ℕ) → number_at t place ≡ o → option_and_then (λ n. option_map (λ (node : Node). (n, node)) (node_of t n)) o ≡ Some e → (o ≡ Some e.0) × (node_of t e.0 ≡ Some e.1)
    by None f is = absurd (cc)
    by (Some n) f is = let h = in_node n (node_of t n) refl is in (ap Some h.0, ap (node_of t) (sym h.0) ∙ h.1)

some_of : (k : ℕ) → not (k == 0) ≡ nat_lt 0 k
some_of k = grind (arith, nat_tests)

module _ (m : Objects) (t : Tree) (stands : Stands m t) where
  pub has_names_same : (place : Place) (n : ℕ) → number_at t place ≡ Some n → has_names m n ≡ isnt_empty t place
  has_names_same place n at =
      some_of (length (names_under m n))
      ∙ ap (λ (names : List Name). nat_lt 0 (length names)) (ap (map (λ e. drop 9 e.0)) (pairs_same m t stands.tree stands.shows place n at) ∙ kids_names n place t.names)

  -- nothing lies below an empty directory, nor below a file
  pub nothing_below : (place : Place) → isnt_empty t place ≡ false → (x : Name) → number_at t (place ++ x ∷ []) ≡ None
  nothing_below place empty x = by (number_at t (place ++ x ∷ [])) refl
    where
      by : (o : Option ℕ) → number_at t (place ++ x ∷ []) ≡ o → o ≡ None
      by None e = refl
      by (Some k) e =
          let some : 0 < length (names_in t place) = listed place (place ++ x ∷ []) x k t.names (child_of place x) e in
          let test : isnt_empty t place ≡ true = grind (arith, nat_tests) in
          absurd (let bad : true ≡ false = sym test ∙ empty in cc)

  pub below_file : (place : Place) (n : ℕ) (bytes : List ℕ) → number_at t place ≡ Some n → node_of t n ≡ Some (File bytes) → (x : Name) → number_at t (place ++ x ∷ []) ≡ None
  below_file place n bytes at file x = by (number_at t (place ++ x ∷ [])) refl
    where
      by : (o : Option ℕ) → number_at t (place ++ x ∷ []) ≡ o → o ≡ None
      by None e = refl
      by (Some k) e =
          let up = stands.tree.parents place x k e in
          let bad : Some (File bytes) ≡ Some Dir = sym file ∙ ap (node_of t) (same_Some n up.0 (sym at ∙ up.1)) ∙ up.2 in
          absurd (cc)

  pub is_leaf : (place : Place) (w : Where) → IsLast t place w → (n : ℕ) (node : Node) → entry_at t place ≡ Some (n, node) → ((x : Name) → number_at t (place ++ x ∷ []) ≡ None) → IsLeaf t place (leaf_at w n (kind_of node).1)
  is_leaf place w last n node e empty =
      let parts = entry_parts t place (n, node) e in
      record { up = last.up; is = last.is; named = last.named; above = last.above; dir = last.dir; at = parts.0; node = node; there = parts.1; size = refl; empty = empty }

  pub short_file : (n : ℕ) (bytes : List ℕ) → node_of t n ≡ Some (File bytes) → nat_lt greatest_length (length bytes) ≡ false
  short_file n bytes file = let h = stands.tree.lengths n bytes file in grind (arith, nat_tests)

  -- what a call that takes a file's name away leaves, and the entry that it takes
  abbrev pub UnlinksLeaf : Desk → After → Leaf → Type 0
  UnlinksLeaf desk after leaf = (place : Place) × IsLeaf t place leaf × (after ≡ record { world = swept (record { tree = without_place t place; desk = desk }); reply = replies.Done })

  pub unlink_same : (desk : Desk) (path : List ℕ) (route : Route) → syntax path ≡ Ok route → SameAs (UnlinksLeaf desk) (unlink (record { tree = t; desk = desk }) path) (unlink_in m route)
  unlink_same desk path route e = subst (λ r. SameAs (UnlinksLeaf desk) (r >>= judge) (unlink_in m route)) (sym e) (
      same_when (UnlinksLeaf desk) EPERM (ends_in_dots route.pieces || is_root route.pieces) (ends_in_dots route.pieces || is_root route.pieces) _ _ refl (λ real.
      let ends = or_false (ends_in_dots route.pieces) (is_root route.pieces) real in
      same_walk (UnlinksLeaf desk) m t stands (walk t route.pieces) (walk_in m at_root route.pieces) (walks m t stands [] at_root route.pieces parts (root_spot m t stands)) _ _ (λ place v f g spot.
      let last = walk_last m t route.pieces parts ends.0 ends.1 place v f g spot in
      subst (λ o. SameAs (UnlinksLeaf desk) ((ENOENT when not (is_there t place)) >> ((EPERM when is_dir t place) >> ((ENOTDIR when route.trailing) >> left place))) (file_to_go v o route.trailing)) (sym (found_at m t stands place v spot))
      (by place v last (entry_at t place) refl))))
    where
      left : Place → Result After Errno
      left place = leaves_swept (record { tree = t; desk = desk }) (without_place t place) replies.Done

      judge : Route → Result After Errno
      judge route = do
        EPERM when (ends_in_dots route.pieces || is_root route.pieces)
        place ← walk t route.pieces
        ENOENT when not (is_there t place)
        EPERM when is_dir t place
        ENOTDIR when route.trailing
        left place

      parts : AllByRecursion IsPart route.pieces
      parts = syntax_named path route e

      by : (place : Place) (v : Where) → IsLast t place v → (o : Option (ℕ × Node)) → entry_at t place ≡ o
          → SameAs (UnlinksLeaf desk) ((ENOENT when not (is_some o)) >> ((EPERM when has_dir o) >> ((ENOTDIR when route.trailing) >> left place))) (file_to_go v (option_map (seen_as m t stands) o) route.trailing)
      by place v last None is = refl
      by place v last (Some (n, Dir)) is = refl
      by place v last (Some (n, File bytes)) is =
          let there = entry_parts t place (n, File bytes) is in
          same_when (UnlinksLeaf desk) ENOTDIR route.trailing route.trailing (left place) ((EFBIG when nat_lt greatest_length (length bytes)) >> Ok (leaf_at v n (length bytes))) refl (λ _.
          same_right (UnlinksLeaf desk) EFBIG (nat_lt greatest_length (length bytes)) (left place) (Ok (leaf_at v n (length bytes))) (short_file n bytes there.1)
          (place, is_leaf place v last n (File bytes) is (below_file place n bytes there.0 there.1), refl))

  abbrev pub RemovesLeaf : Place → Leaf → Type 0
  RemovesLeaf place leaf = IsLeaf t place leaf × (leaf.size ≡ 0)

  pub rmdir_same : (path : List ℕ) (route : Route) → syntax path ≡ Ok route → SameAs RemovesLeaf (rmdir_at t path) (rmdir_in m route)
  rmdir_same path route e = subst (λ r. SameAs RemovesLeaf (r >>= judge) (rmdir_in m route)) (sym e) (
      same_when RemovesLeaf EINVAL (ends_by is_dot route.pieces) (ends_by is_dot route.pieces) _ _ refl (λ one.
      same_when RemovesLeaf ENOTEMPTY (ends_by is_dot_dot route.pieces) (ends_by is_dot_dot route.pieces) _ _ refl (λ two.
      same_when RemovesLeaf EBUSY (is_root route.pieces) (is_root route.pieces) _ _ refl (λ root.
      same_walk RemovesLeaf m t stands (walk t route.pieces) (walk_in m at_root route.pieces) (walks m t stands [] at_root route.pieces parts (root_spot m t stands)) _ _ (λ place v f g spot.
      let last = walk_last m t route.pieces parts (neither_dots route.pieces one two) root place v f g spot in
      subst (λ o. SameAs RemovesLeaf ((ENOENT when not (is_there t place)) >> ((ENOTDIR when is_file t place) >> ((ENOTEMPTY when isnt_empty t place) >> Ok place))) (dir_to_go m v o)) (sym (found_at m t stands place v spot))
      (by place v last (entry_at t place) refl))))))
    where
      judge : Route → Result Place Errno
      judge route = do
        EINVAL when ends_by is_dot route.pieces
        ENOTEMPTY when ends_by is_dot_dot route.pieces
        EBUSY when is_root route.pieces
        place ← walk t route.pieces
        ENOENT when not (is_there t place)
        ENOTDIR when is_file t place
        ENOTEMPTY when isnt_empty t place
        Ok place

      parts : AllByRecursion IsPart route.pieces
      parts = syntax_named path route e

      by : (place : Place) (v : Where) → IsLast t place v → (o : Option (ℕ × Node)) → entry_at t place ≡ o
          → SameAs RemovesLeaf ((ENOENT when not (is_some o)) >> ((ENOTDIR when has_file o) >> ((ENOTEMPTY when isnt_empty t place) >> Ok place))) (dir_to_go m v (option_map (seen_as m t stands) o))
      by place v last None is = refl
      by place v last (Some (n, File bytes)) is = refl
      by place v last (Some (n, Dir)) is =
          same_when RemovesLeaf ENOTEMPTY (isnt_empty t place) (has_names m n) (Ok place) (Ok (leaf_at v n 0)) (sym (has_names_same place n (entry_parts t place (n, Dir) is).0)) (λ empty. (is_leaf place v last n Dir is (nothing_below place empty), refl))
