-- What the judge of renaming answers over the objects is what the tree's definition says.
use Rattle.std.proofs.Common.{◌≡◌, ◌≢◌, ℕ, zero, suc, ◌<◌, ◌≤◌, ◌+◌, ◌||◌, ◌&&◌, ◌==◌, not, true, false, cond, Bool, inl, inr, refl, sym, ◌∙◌, ap, subst, arith, List, [], ◌∷◌, ◌++◌, length, take, drop, get_or, take-append-drop, Option, Some, None, is_some, Result, Ok, nat_lt}
use Rattle.std.proofs.lemmas.Bool.{and_parts}
use Rattle.std.specs.List.{AllByRecursion, filter_map, list_any, cons_option}
use Rattle.std.specs.Option.{option_map, option_and_then}
use Rattle.std.specs.FinMap.{find}
use Rattle.std.specs.Ordering.{eq_by_cmp}
use Rattle.std.specs.Str.{bytes_eq}
use Rattle.std.proofs.lemmas.Bool.Decides.{nat_tests}
use Rattle.std.proofs.lemmas.List.{same_from_push, take-append-le, take_all}
use Rattle.std.proofs.lemmas.Option.{same_Some}
use Rattle.std.proofs.lemmas.Slice.Eq.{bytes_eq-Decides}
use Rattle.kv_device.specs.Objects.{Objects}
use Rattle.kfs_path.specs.declared.call.Errno.{Errno}
use Rattle.kfs_path.specs.Pieces.{pieces_of, is_empty, is_too_long, ends_in_slash}
use Rattle.kfs_path.specs.declared.call.Errno.TheVariants.{ENOENT, ENAMETOOLONG, ENOTDIR, EBUSY, EINVAL, EISDIR, ENOTEMPTY, EFBIG}
use Rattle.kfs_path.specs.declared.call.Reply.TheVariants as replies
use Rattle.kfs_model.specs.declared.Node.{Node}
use Rattle.kfs_model.specs.declared.Node.TheVariants.{Dir, File}
use Rattle.kfs_model.specs.Ladder.{◌>>=◌, ◌>>◌, ◌when◌}
use Rattle.kfs_model.specs.Tree.{Place, Name, Tree, place_cmp, below, child, entry_at, walk, without_place, renamed, IsName, number_at, node_of}
use Rattle.kfs_model.specs.Desk.{Desk}
use Rattle.kfs_model.specs.Step.{World, After, Route, syntax, swept, leaves_swept, answers, rename, or_else, is_there, is_dir, is_file, has_dir, has_file, isnt_empty, is_same_place, is_root, ends_in_dots}
use Rattle.kfs_model.proofs.Renaming.{below-append}
use Rattle.kfs_laws.proofs.Moves.{below_is, below_itself}
use Rattle.kfs_laws.proofs.Unnaming.{stays_other}
use Rattle.kfs_shows.proofs.Lookups.{places_total, same_places, tie_test, decide_place}
use Rattle.kfs_core.specs.Stands.{Stands}
use Rattle.kfs_core.specs.Flat.{Where, at_root, walk_in}
use Rattle.kfs_core.specs.Making.{parent_of}
use Rattle.kfs_core.specs.Removing.{Leaf}
use Rattle.kfs_core.specs.Renaming.{Move, is_dir_found, is_file_found, isnt_empty_found, is_long_found, is_same_spot, replaced_at, move_at, clear_in, onto_in, from_in, rename_in}
use Rattle.kfs_core.proofs.Pieces.{IsPart, ok_is, or_false}
use Rattle.kfs_core.proofs.Ways.{IsSpot, kind_of, walks, root_spot}
use Rattle.kfs_core.proofs.Judges.{syntax_named, found_at, seen_as}
use Rattle.kfs_core.proofs.Children.{child_is}
use Rattle.kfs_core.proofs.Ladders.{SameAs, same_when, same_right, same_if, same_walk}
use Rattle.kfs_core.proofs.Lasts.{IsLast, walk_last}
use Rattle.kfs_core.proofs.RemovingJudges.{IsLeaf, entry_parts, has_names_same, nothing_below, below_file, is_leaf, short_file}

-- what the new place names: nothing, or a node that nothing lies below
abbrev pub IsOver : Tree → Place → ℕ → Name → Option Leaf → Type 0
IsOver t q parent name None = number_at t q ≡ None
IsOver t q parent name (Some leaf) = IsLeaf t q leaf × (leaf.parent ≡ parent) × (leaf.name ≡ name)

-- an entry that may move, from one place to another
pub record IsMove (t : Tree) (p q : Place) (move : Move) : Type 0 where
  pub up : Place
  pub is : p ≡ up ++ move.name ∷ []
  pub above : number_at t up ≡ Some move.parent
  pub at : number_at t p ≡ Some move.node
  pub to : Place
  pub goal : q ≡ to ++ move.new_name ∷ []
  pub named : IsName move.new_name
  pub under : number_at t to ≡ Some move.new_parent
  pub dir : node_of t move.new_parent ≡ Some Dir
  pub apart : below p q ≡ None
  pub two : is_same_place p q ≡ false
  pub empty : isnt_empty t q ≡ false
  pub over : IsOver t q move.new_parent move.new_name move.replaced

-- the pieces that a path is read into
pub pieces_read : (path : List ℕ) (route : Route) → syntax path ≡ Ok route → pieces_of path ≡ route.pieces
pieces_read path route e = by (is_empty path) (is_too_long path) e
  where
    by : (a b : Bool) → (ENOENT when a) >> ((ENAMETOOLONG when b) >> Ok (record { pieces = pieces_of path; trailing = ends_in_slash path })) ≡ Ok route → pieces_of path ≡ route.pieces
    by true b e = absurd (cc)
    by false true e = absurd (cc)
    by false false e = ap (λ (r : Route). r.pieces) (ok_is _ route e)

none_of : (b : Bool) → not b ≡ true → b ≡ false
none_of true e = absurd (cc)
none_of false e = refl

one_place : (p q : Place) → p ≡ q → is_same_place p q ≡ true
one_place p q e = subst (λ r. is_same_place p r ≡ true) e (λ i. is_some (below_itself p i) && is_some (below_itself p i))

two_places : (p q : Place) → p ≢ q → is_same_place p q ≡ false
two_places p q d = none_of (is_same_place p q) (stays_other p q (λ e. d (sym e)))

-- ---- a number in a list

any_at : (n : ℕ) (xs : List ℕ) (i : ℕ) → i < length xs → get_or xs i 0 ≡ n → list_any (λ k. k == n) xs ≡ true
any_at n [] i lt e = absurd (omega arith)
any_at n (x ∷ xs) zero lt e = let test : (x == n) ≡ true = grind (arith, nat_tests) in ap (λ b. b || list_any (λ k. k == n) xs) test
any_at n (x ∷ xs) (suc i) lt e = or_right (x == n) (list_any (λ k. k == n) xs) (any_at n xs i (omega arith) e)
  where
    or_right : (a b : Bool) → b ≡ true → (a || b) ≡ true
    or_right true b e = refl
    or_right false b e = e

any_from : (n : ℕ) (xs : List ℕ) → list_any (λ k. k == n) xs ≡ true → (i : ℕ) × (i < length xs) × (get_or xs i 0 ≡ n)
any_from n [] e = absurd (cc)
any_from n (x ∷ xs) e = by (x == n) refl (any_from n xs) e
  where
    by : (b : Bool) → (x == n) ≡ b → (list_any (λ k. k == n) xs ≡ true → (i : ℕ) × (i < length xs) × (get_or xs i 0 ≡ n)) → (b || list_any (λ k. k == n) xs) ≡ true → (i : ℕ) × (i < length (x ∷ xs)) × (get_or (x ∷ xs) i 0 ≡ n)
    by true is rest e = (0, omega arith, grind (arith, nat_tests))
    by false is rest e = let r = rest e in (suc r.0, (let lt = r.1 in omega arith), r.2)

-- no entry lies directly below
no_kids : (q : Place) (es : List (Place × ℕ)) → ((x : Name) → find place_cmp (q ++ x ∷ []) es ≡ None) → filter_map (λ e. child q e.0) es ≡ []
no_kids q [] none = refl
no_kids q (e ∷ es) none = by (child q e.0) refl (no_kids q es (λ x. rest_none (eq_by_cmp place_cmp (q ++ x ∷ []) e.0) (find place_cmp (q ++ x ∷ []) es) (none x)))
  where
    rest_none : (b : Bool) (o : Option ℕ) → cond b (Some e.1) o ≡ None → o ≡ None
    rest_none true o f = absurd (cc)
    rest_none false o f = f

    by : (o : Option Name) → child q e.0 ≡ o → filter_map (λ e. child q e.0) es ≡ [] → cons_option o (filter_map (λ e. child q e.0) es) ≡ []
    by None is rest = rest
    by (Some x) is rest =
        let here : find place_cmp (q ++ x ∷ []) (e ∷ es) ≡ Some e.1 = ap (λ b. cond b (Some e.1) (find place_cmp (q ++ x ∷ []) es)) (ap (λ r. eq_by_cmp place_cmp r e.0) (sym (child_is q e.0 x is)) ∙ tie_test places_total same_places e.0) in
        absurd (let bad : None ≡ Some e.1 = sym (none x) ∙ here in cc)

pub empty_below : (t : Tree) (q : Place) → ((x : Name) → number_at t (q ++ x ∷ []) ≡ None) → isnt_empty t q ≡ false
empty_below t q none = ap (λ (names : List Name). nat_lt 0 (length names)) (no_kids q t.names none)

file_kind : (n : ℕ) (x : Node) → has_file (Some (n, x)) ≡ not ((kind_of x).0 == 1)
file_kind n Dir = refl
file_kind n (File bytes) = refl

dir_kind : (n : ℕ) (x : Node) → has_dir (Some (n, x)) ≡ ((kind_of x).0 == 1)
dir_kind n Dir = refl
dir_kind n (File bytes) = refl

module _ (m : Objects) (t : Tree) (stands : Stands m t) where
  -- what the objects tell of what was found
  dir_found : (o : Option (ℕ × Node)) → has_dir o ≡ is_dir_found (option_map (seen_as m t stands) o)
  dir_found None = refl
  dir_found (Some (n, Dir)) = refl
  dir_found (Some (n, File bytes)) = refl

  file_found : (o : Option (ℕ × Node)) → has_file o ≡ is_file_found (option_map (seen_as m t stands) o)
  file_found None = refl
  file_found (Some (n, Dir)) = refl
  file_found (Some (n, File bytes)) = refl

  entry_none : (q : Place) → entry_at t q ≡ None → number_at t q ≡ None
  entry_none q e = by (number_at t q) refl e
    where
      by : (o : Option ℕ) → number_at t q ≡ o → option_and_then {U = ℕ × Node} (λ n. option_map {U = ℕ × Node} (λ node. (n, node)) (node_of t n)) o ≡ None → o ≡ None
      by None is e = refl
      by (Some n) is e =
          let x = stands.tree.there q n is in
          let found : ℕ × Node = (n, x.0) in
          let bad : Some found ≡ None = sym (ap (λ (o : Option Node). option_map {U = ℕ × Node} (λ node. (n, node)) o) x.1) ∙ e in
          absurd (cc)

  empty_found : (q : Place) (o : Option (ℕ × Node)) → entry_at t q ≡ o → isnt_empty t q ≡ isnt_empty_found m (option_map (seen_as m t stands) o)
  empty_found q None is = empty_below t q (λ x. nothing x (number_at t (q ++ x ∷ [])) refl)
    where
      nothing : (x : Name) (o : Option ℕ) → number_at t (q ++ x ∷ []) ≡ o → o ≡ None
      nothing x None e = refl
      nothing x (Some k) e = let up = stands.tree.parents q x k e in let bad : None ≡ Some up.0 = sym (entry_none q is) ∙ up.1 in absurd (cc)
  empty_found q (Some (n, Dir)) is = sym (has_names_same m t stands q n (entry_parts t q (n, Dir) is).0)
  empty_found q (Some (n, File bytes)) is = let parts = entry_parts t q (n, File bytes) is in empty_below t q (below_file m t stands q n bytes parts.0 parts.1)

  long_found : (q : Place) (o : Option (ℕ × Node)) → entry_at t q ≡ o → is_long_found (option_map (seen_as m t stands) o) ≡ false
  long_found q None is = refl
  long_found q (Some (n, Dir)) is = refl
  long_found q (Some (n, File bytes)) is = short_file m t stands n bytes (entry_parts t q (n, File bytes) is).1

  -- two walks ended at one place where they ended under one name in one directory
  same_spot : (p q : Place) (v u : Where) → IsLast t p v → IsLast t q u → is_same_place p q ≡ is_same_spot v u
  same_spot p q v u a b = elim (decide_place p q) [
    | inl one ↦
        let f = same_from_push a.up b.up v.name u.name (sym a.is ∙ one ∙ b.is) in
        let number : parent_of v ≡ parent_of u = same_Some _ _ (sym a.above ∙ ap (number_at t) f.0 ∙ b.above) in
        let test : (parent_of v == parent_of u) ≡ true = grind (arith, nat_tests) in
        one_place p q one ∙ (λ i. sym test i && sym ((bytes_eq-Decides v.name u.name).1 f.1) i)
    | inr two ↦ two_places p q two ∙ sym (by (is_same_spot v u) refl two)
  ]
    where
      by : (c : Bool) → is_same_spot v u ≡ c → p ≢ q → c ≡ false
      by false e two = refl
      by true e two =
          let h = and_parts (parent_of v == parent_of u) (bytes_eq v.name u.name) e in
          let test = h.0 in
          let number : parent_of v ≡ parent_of u = grind (arith, nat_tests) in
          let ups = stands.tree.apart a.up b.up (parent_of u) (a.above ∙ ap Some number) b.above in
          let names : v.name ≡ u.name = (bytes_eq-Decides v.name u.name).0 h.1 in
          absurd (two (a.is ∙ (λ i. ups i ++ names i ∷ []) ∙ sym b.is))

  -- a place lies below another where the walk to it came by that one's node
  module _ (p q : Place) (n : ℕ) (u : Where) (spot : IsSpot t q u) (at : number_at t p ≡ Some n) (two : p ≢ q) where
    came_by : (tail : Place) → below p q ≡ Some tail → list_any (λ k. k == n) u.above ≡ true
    came_by [] e = absurd (two (sym (below_is p q [] e ∙ nil p)))
      where
        nil : (r : Place) → r ++ [] ≡ r
        nil [] = refl
        nil (x ∷ r) = ap (λ s. x ∷ s) (nil r)
    came_by (x ∷ tail) e =
        let is = below_is p q (x ∷ tail) e in
        let long : length q ≡ length p + suc (length tail) = ap length is ∙ long_append p (x ∷ tail) in
        let above = spot.long in
        let whole : length p ≤ length p = omega arith in
        let lt : length p < length q = omega arith in
        let front : take (length p) q ≡ p = ap (take (length p)) is ∙ take-append-le (length p) p (x ∷ tail) whole ∙ take_all (length p) p whole in
        any_at n u.above (length p) (omega arith) (same_Some _ _ (sym (spot.way (length p) lt) ∙ ap (number_at t) front ∙ at))
      where
        long_append : (xs ys : Place) → length (xs ++ ys) ≡ length xs + length ys
        long_append [] ys = omega arith
        long_append (x ∷ xs) ys = let h = long_append xs ys in omega arith

    lies_below : list_any (λ k. k == n) u.above ≡ true → (tail : Place) × (below p q ≡ Some tail)
    lies_below e =
        let i = any_from n u.above e in
        let lt = i.1 in
        let above = spot.long in
        let front : take i.0 q ≡ p = stands.tree.apart (take i.0 q) p n (spot.way i.0 (omega arith) ∙ ap Some i.2) at in
        (drop i.0 q, ap (below p) (sym (take-append-drop i.0 q) ∙ ap (λ r. r ++ drop i.0 q) front) ∙ below-append p (drop i.0 q))

    below_same : is_some (below p q) ≡ list_any (λ k. k == n) u.above
    below_same = by (below p q) refl (list_any (λ k. k == n) u.above) refl
      where
        by : (o : Option Place) → below p q ≡ o → (b : Bool) → list_any (λ k. k == n) u.above ≡ b → is_some o ≡ b
        by None e true f = let l = lies_below f in let bad : None ≡ Some l.0 = sym e ∙ l.1 in absurd (cc)
        by None e false f = refl
        by (Some tail) e b f = sym (came_by tail e) ∙ f

  over_at : (q : Place) (u : Where) → IsLast t q u → isnt_empty t q ≡ false → (o : Option (ℕ × Node)) → entry_at t q ≡ o → IsOver t q (parent_of u) u.name (replaced_at u (option_map (seen_as m t stands) o))
  over_at q u last empty None is = entry_none q is
  over_at q u last empty (Some (n, node)) is = (is_leaf m t stands q u last n node is (nothing_below m t stands q empty), refl, refl)

  none_front : (p q : Place) → is_some (below p q) ≡ false → below p q ≡ None
  none_front p q e = by (below p q) e
    where
      by : (o : Option Place) → is_some o ≡ false → o ≡ None
      by None e = refl
      by (Some tail) e = absurd (cc)

  module _ (desk : Desk) where
    abbrev world : World
    world = record { tree = t; desk = desk }

    -- what a call that renames a path leaves, and what it moves
    abbrev pub MovesPath : List ℕ → After → Option Move → Type 0
    MovesPath old after None = after ≡ record { world = world; reply = replies.Done }
    MovesPath old after (Some move) = (p : Place) × (q : Place) × IsMove t p q move × (walk t (pieces_of old) ≡ Ok p) × (after ≡ record { world = swept (record { tree = renamed (without_place t q) p q; desk = desk }); reply = replies.Done })

    module _ (old new : List ℕ) (from to : Route) (read_old : syntax old ≡ Ok from) (read_new : syntax new ≡ Ok to) where
      abbrev clear_tree : Place → Option (ℕ × Node) → Place → Result After Errno
      clear_tree p o q = do
        EINVAL when is_some (below p q)
        ENOTDIR when (has_dir o && is_file t q)
        EISDIR when (has_file o && is_dir t q)
        ENOTEMPTY when isnt_empty t q
        leaves_swept world (renamed (without_place t q) p q) replies.Done

      abbrev onto_tree : Place → Option (ℕ × Node) → Place → Result After Errno
      onto_tree p o q = (ENOTDIR when (has_file o && to.trailing && not (is_dir t q))) >> cond (is_same_place p q) (answers world replies.Done) (clear_tree p o q)

      abbrev from_tree : Place → Option (ℕ × Node) → Result After Errno
      from_tree p o = do
        ENOENT when not (is_some o)
        ENOTDIR when (from.trailing && has_file o)
        q ← walk t to.pieces
        onto_tree p o q

      abbrev judge : Route → Route → Result After Errno
      judge from to = do
        EINVAL when (ends_in_dots from.pieces || ends_in_dots to.pieces)
        EBUSY when (is_root from.pieces || is_root to.pieces)
        p ← walk t from.pieces
        ENOENT when not (is_there t p)
        ENOTDIR when (from.trailing && is_file t p)
        q ← walk t to.pieces
        ENOTDIR when (is_file t p && to.trailing && not (is_dir t q))
        cond (is_same_place p q) (answers world replies.Done) (clear_tree p (entry_at t p) q)

      from_parts : AllByRecursion IsPart from.pieces
      from_parts = syntax_named old from read_old

      from_pieces : pieces_of old ≡ from.pieces
      from_pieces = pieces_read old from read_old

      to_parts : AllByRecursion IsPart to.pieces
      to_parts = syntax_named new to read_new

      clears : (p q : Place) (v u : Where) (n : ℕ) (x : Node) → IsLast t p v → IsLast t q u → IsSpot t q u → entry_at t p ≡ Some (n, x) → p ≢ q → is_same_place p q ≡ false → walk t (pieces_of old) ≡ Ok p → (o : Option (ℕ × Node)) → entry_at t q ≡ o
          → SameAs (MovesPath old) (clear_tree p (Some (n, x)) q) (clear_in m n ((kind_of x).0 == 1) v u (option_map (seen_as m t stands) o))
      clears p q v u n x a b spot is two differ way o there =
          let at = (entry_parts t p (n, x) is).0 in
          let found = option_map (seen_as m t stands) o in
          let file : is_file t q ≡ is_file_found found = ap has_file there ∙ file_found o in
          let dir : is_dir t q ≡ is_dir_found found = ap has_dir there ∙ dir_found o in
          same_when (MovesPath old) EINVAL (is_some (below p q)) (list_any (λ k. k == n) u.above) _ _ (below_same p q n u spot at two) (λ outside.
          same_when (MovesPath old) ENOTDIR (has_dir (Some (n, x)) && is_file t q) (((kind_of x).0 == 1) && is_file_found found) _ _ (λ i. dir_kind n x i && file i) (λ _.
          same_when (MovesPath old) EISDIR (has_file (Some (n, x)) && is_dir t q) (not ((kind_of x).0 == 1) && is_dir_found found) _ _ (λ i. file_kind n x i && dir i) (λ _.
          same_when (MovesPath old) ENOTEMPTY (isnt_empty t q) (isnt_empty_found m found) _ _ (empty_found q o there) (λ empty.
          let done : After = record { world = swept (record { tree = renamed (without_place t q) p q; desk = desk }); reply = replies.Done } in
          let move : Move = move_at n v u found in
          let moves : IsMove t p q move = record {
            up = a.up;
            is = a.is;
            above = a.above;
            at = at;
            to = b.up;
            goal = b.is;
            named = b.named;
            under = b.above;
            dir = b.dir;
            apart = none_front p q outside;
            two = differ;
            empty = empty;
            over = over_at q u b empty o there;
          } in
          let both : MovesPath old done (Some move) = (p, q, moves, way, refl) in
          same_right (MovesPath old) EFBIG (is_long_found found) (Ok done) (Ok (Some move)) (long_found q o there) both))))

      onto : (p q : Place) (v u : Where) (n : ℕ) (x : Node) → IsLast t p v → IsLast t q u → IsSpot t q u → entry_at t p ≡ Some (n, x) → walk t (pieces_of old) ≡ Ok p → (o : Option (ℕ × Node)) → entry_at t q ≡ o
          → SameAs (MovesPath old) (onto_tree p (Some (n, x)) q) (onto_in m to v n ((kind_of x).0 == 1) u (option_map (seen_as m t stands) o))
      onto p q v u n x a b spot is way o there =
          let found = option_map (seen_as m t stands) o in
          let dir : is_dir t q ≡ is_dir_found found = ap has_dir there ∙ dir_found o in
          same_when (MovesPath old) ENOTDIR (has_file (Some (n, x)) && to.trailing && not (is_dir t q)) (not ((kind_of x).0 == 1) && to.trailing && not (is_dir_found found)) _ _ (λ i. file_kind n x i && to.trailing && not (dir i)) (λ _.
          same_if (MovesPath old) (is_same_place p q) (is_same_spot v u) _ _ _ _ (same_spot p q v u a b) (λ _. refl)
          (λ differ. clears p q v u n x a b spot is (λ one. let bad : true ≡ false = sym (one_place p q one) ∙ differ in cc) differ way o there))

      begins : ends_in_dots from.pieces ≡ false → is_root from.pieces ≡ false → ends_in_dots to.pieces ≡ false → is_root to.pieces ≡ false
          → (p : Place) (v : Where) → IsLast t p v → walk t (pieces_of old) ≡ Ok p → (o : Option (ℕ × Node)) → entry_at t p ≡ o
          → SameAs (MovesPath old) (from_tree p o) (or_else (option_map (seen_as m t stands) o) ENOENT >>= λ it. from_in m from to v it)
      begins from_dots from_root to_dots to_root p v a way None is = refl
      begins from_dots from_root to_dots to_root p v a way (Some (n, x)) is =
          same_when (MovesPath old) ENOTDIR (from.trailing && has_file (Some (n, x))) (from.trailing && not ((kind_of x).0 == 1)) _ _ (ap (λ b. from.trailing && b) (file_kind n x)) (λ _.
          same_walk (MovesPath old) m t stands (walk t to.pieces) (walk_in m at_root to.pieces) (walks m t stands [] at_root to.pieces to_parts (root_spot m t stands)) _ _ (λ q u f g spot.
          let b = walk_last m t to.pieces to_parts to_dots to_root q u f g spot in
          subst (λ o. SameAs (MovesPath old) (onto_tree p (Some (n, x)) q) (onto_in m to v n ((kind_of x).0 == 1) u o)) (sym (found_at m t stands q u spot))
          (onto p q v u n x a b spot is way (entry_at t q) refl)))

      judged : SameAs (MovesPath old) (judge from to) (rename_in m from to)
      judged =
          same_when (MovesPath old) EINVAL (ends_in_dots from.pieces || ends_in_dots to.pieces) (ends_in_dots from.pieces || ends_in_dots to.pieces) _ _ refl (λ dots.
          same_when (MovesPath old) EBUSY (is_root from.pieces || is_root to.pieces) (is_root from.pieces || is_root to.pieces) _ _ refl (λ root.
          let d = or_false (ends_in_dots from.pieces) (ends_in_dots to.pieces) dots in
          let r = or_false (is_root from.pieces) (is_root to.pieces) root in
          same_walk (MovesPath old) m t stands (walk t from.pieces) (walk_in m at_root from.pieces) (walks m t stands [] at_root from.pieces from_parts (root_spot m t stands)) _ _ (λ p v f g spot.
          let a = walk_last m t from.pieces from_parts d.0 r.0 p v f g spot in
          subst (λ o. SameAs (MovesPath old) (from_tree p (entry_at t p)) (or_else o ENOENT >>= λ it. from_in m from to v it)) (sym (found_at m t stands p v spot))
          (begins d.0 r.0 d.1 r.1 p v a (ap (walk t) from_pieces ∙ f) (entry_at t p) refl))))

      pub rename_same : SameAs (MovesPath old) (rename world old new) (rename_in m from to)
      rename_same =
          subst (λ r. SameAs (MovesPath old) (r >>= λ from. syntax new >>= judge from) (rename_in m from to)) (sym read_old)
          (subst (λ r. SameAs (MovesPath old) (r >>= judge from) (rename_in m from to)) (sym read_new) judged)
