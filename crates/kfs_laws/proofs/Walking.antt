-- Where a walk ends: a place that isn't there lies in a directory, and so does one that ends in a name.
use Rattle.std.proofs.Common.{◌≡◌, ◌≢◌, ℕ, ◌<◌, ◌≤◌, ◌-◌, ◌||◌, ◌⊎◌, inl, inr, true, false, cond, Bool, refl, sym, ◌∙◌, ap, subst, arith, List, [], ◌∷◌, ◌++◌, length, take, All, Option, Some, None, is_some, Result, Ok}
use Rattle.std.specs.Option.{option_map, option_and_then}
use Rattle.std.specs.Str.{bytes_eq}
use Rattle.std.proofs.lemmas.Slice.Eq.{bytes_eq-Decides}
use Rattle.std.proofs.lemmas.List.{length_push, take-append-le, take_all}
use Rattle.std.proofs.lemmas.List.Elements.{All-head, All-tail}
use Rattle.std.proofs.lemmas.Bool.{or_parts}
use Rattle.std.proofs.lemmas.Bool.Decides.{nat_tests}
use Rattle.std.proofs.lemmas.Option.{same_Some}
use Rattle.kfs_path.specs.Names.{IsPiece}
use Rattle.kfs_path.specs.Pieces.{pieces_of, is_too_long}
use Rattle.kfs_path.proofs.Whole.{pieces_whole}
use Rattle.kfs_model.specs.declared.Node.{Node}
use Rattle.kfs_model.specs.declared.Node.TheVariants.{Dir, File}
use Rattle.kfs_model.specs.Ladder.{bind_ok}
use Rattle.kfs_model.specs.Tree.{Place, Name, Tree, parent, further, entered, entry_at, walk, walk_from, is_dot, is_dot_dot, only_name, names_in, IsName, IsTree, number_at, node_of}
use Rattle.kfs_model.specs.Step.{is_there, is_dir, has_dir, is_root, ends_by, ends_in_dots, isnt_empty}
use Rattle.kfs_model.proofs.Renaming.{below-append}
use Rattle.kfs_laws.proofs.Moves.{listed}

ok_is : {A B : Type 0} (x y : A) → ◌≡◌ {A = Result A B} (Ok x) (Ok y) → x ≡ y
ok_is x y e = cc

not_bytes : (xs ys : Name) → bytes_eq xs ys ≡ false → xs ≢ ys
not_bytes xs ys e f = let bad : true ≡ false = sym ((bytes_eq-Decides xs ys).1 f) ∙ e in cc

-- a piece that is no dots is a name
is_name : (piece : Name) → IsPiece piece → is_dot piece ≡ false → is_dot_dot piece ≡ false → IsName piece
is_name piece h a b = record { short = (h.0, h.1); slashes = h.2; dot = not_bytes piece (46 ∷ []) a; dots = not_bytes piece (46 ∷ 46 ∷ []) b }

-- a place is the root, or has a last name
last_split : (p : Place) → (p ≡ []) ⊎ ((up : Place) × (name : Name) × (p ≡ up ++ name ∷ []))
last_split [] = inl refl
last_split (x ∷ p) = elim (last_split p) [
  | inl e ↦ inr ([], x, ap (λ r. x ∷ r) e)
  | inr (up, name, is) ↦ inr (x ∷ up, name, ap (λ r. x ∷ r) is)
]

parent_push : (up : Place) (x : Name) → parent (up ++ x ∷ []) ≡ up
parent_push up x =
    let long = length_push up x in
    let le : length up ≤ length up = omega arith in
    let n : length (up ++ x ∷ []) - 1 ≡ length up = omega arith in
    ap (λ k. take k (up ++ x ∷ [])) n ∙ take-append-le (length up) up (x ∷ []) le ∙ take_all (length up) up le

-- the directory that a place lies in, and its name there
pub record IsIn (t : Tree) (place : Place) : Type 0 where
  pub up : Place
  pub name : Name
  pub number : ℕ
  pub same : place ≡ up ++ name ∷ []
  pub at : number_at t up ≡ Some number
  pub dir : node_of t number ≡ Some Dir
  pub named : IsName name

-- what a piece is looked for in is a directory
dir_at : (t : Tree) (place : Place) (u : Unit {0}) → entered (entry_at t place) ≡ Ok u → (n : ℕ) × (number_at t place ≡ Some n) × (node_of t n ≡ Some Dir)
dir_at t place u e = by (number_at t place) refl e
  where
    inner : (n : ℕ) → number_at t place ≡ Some n → (o : Option Node) → node_of t n ≡ o → entered (option_map {U = ℕ × Node} (λ node. (n, node)) o) ≡ Ok u → (n : ℕ) × (number_at t place ≡ Some n) × (node_of t n ≡ Some Dir)
    inner n at None is e = absurd (cc)
    inner n at (Some Dir) is e = (n, at, is)
    inner n at (Some (File b)) is e = absurd (cc)

    by : (o : Option ℕ) → number_at t place ≡ o → entered (option_and_then {U = ℕ × Node} (λ n. option_map {U = ℕ × Node} (λ node. (n, node)) (node_of t n)) o) ≡ Ok u → (n : ℕ) × (number_at t place ≡ Some n) × (node_of t n ≡ Some Dir)
    by None at e = absurd (cc)
    by (Some n) at e = inner n at (node_of t n) refl e

-- a place that names no directory but something names a file
file_at : (t : Tree) (place : Place) → is_there t place ≡ true → is_dir t place ≡ false → (n : ℕ) × (b : List ℕ) × (number_at t place ≡ Some n) × (node_of t n ≡ Some (File b))
file_at t place there dir = by (number_at t place) refl there dir
  where
    inner : (n : ℕ) → number_at t place ≡ Some n → (o : Option Node) → node_of t n ≡ o → is_some (option_map {U = ℕ × Node} (λ node. (n, node)) o) ≡ true → has_dir (option_map {U = ℕ × Node} (λ node. (n, node)) o) ≡ false → (n : ℕ) × (b : List ℕ) × (number_at t place ≡ Some n) × (node_of t n ≡ Some (File b))
    inner n at None is e f = absurd (cc)
    inner n at (Some Dir) is e f = absurd (cc)
    inner n at (Some (File b)) is e f = (n, b, at, is)

    by : (o : Option ℕ) → number_at t place ≡ o → is_some (option_and_then {U = ℕ × Node} (λ n. option_map {U = ℕ × Node} (λ node. (n, node)) (node_of t n)) o) ≡ true
        → has_dir (option_and_then {U = ℕ × Node} (λ n. option_map {U = ℕ × Node} (λ node. (n, node)) (node_of t n)) o) ≡ false → (n : ℕ) × (b : List ℕ) × (number_at t place ≡ Some n) × (node_of t n ≡ Some (File b))
    by None at e f = absurd (cc)
    by (Some n) at e f = inner n at (node_of t n) refl e f

module _ (t : Tree) (tree : IsTree t) where
  there_is : (q : Place) (n : ℕ) (x : Node) → number_at t q ≡ Some n → node_of t n ≡ Some x → is_there t q ≡ true
  there_is q n x at is = rw (at, is) refl

  -- nothing is named at a place that isn't there
  pub none_there : (place : Place) → is_there t place ≡ false → number_at t place ≡ None
  none_there place e = by (number_at t place) refl
    where
      by : (o : Option ℕ) → number_at t place ≡ o → o ≡ None
      by None at = refl
      by (Some n) at = let x = tree.there place n at in absurd (let bad : true ≡ false = sym (there_is place n x.0 at x.1) ∙ e in cc)

  root_there : is_there t [] ≡ true
  root_there = there_is [] 1 Dir tree.root tree.root_dir

  parent_there : (place : Place) (n : ℕ) → number_at t place ≡ Some n → is_there t (parent place) ≡ true
  parent_there place n at = elim (last_split place) [
    | inl e ↦ ap (λ q. is_there t (parent q)) e ∙ root_there
    | inr (up, name, is) ↦
        let m = tree.parents up name n (ap (number_at t) (sym is) ∙ at) in
        ap (λ q. is_there t (parent q)) is ∙ ap (is_there t) (parent_push up name) ∙ there_is up m.0 Dir m.1 m.2
  ]

  -- a place that isn't there lies in a directory
  abbrev Lands : Place → Type 0
  Lands q = is_there t q ≡ false → IsIn t q

  lands_there : (q : Place) → is_there t q ≡ true → Lands q
  lands_there q there free = absurd (let bad : true ≡ false = sym there ∙ free in cc)

  further_lands : (place : Place) (n : ℕ) → number_at t place ≡ Some n → node_of t n ≡ Some Dir → (piece : Name) → IsPiece piece → Lands (further place piece)
  further_lands place n at dir piece part = by (is_dot piece) (is_dot_dot piece) refl refl
    where
      by : (a b : Bool) → is_dot piece ≡ a → is_dot_dot piece ≡ b → Lands (cond a place (cond b (parent place) (place ++ piece ∷ [])))
      by true b e f = lands_there place (there_is place n Dir at dir)
      by false true e f = lands_there (parent place) (parent_there place n at)
      by false false e f = λ free. record { up = place; name = piece; number = n; same = refl; at = at; dir = dir; named = is_name piece part e f }

  walk_lands : (place : Place) (pieces : List Name) (q : Place) → All IsPiece pieces → Lands place → walk_from t place pieces ≡ Ok q → Lands q
  walk_lands place [] q parts h e = subst Lands (ok_is place q e) h
  walk_lands place (piece ∷ pieces) q parts h e =
      let into = bind_ok (entered (entry_at t place)) (λ _. walk_from t (further place piece) pieces) q e in
      let dir = dir_at t place into.0 into.1 in
      walk_lands (further place piece) pieces q (All-tail IsPiece piece pieces parts) (further_lands place dir.0 dir.1 dir.2 piece (All-head IsPiece piece pieces parts)) into.2

  pub free_in : (path : List ℕ) (place : Place) → is_too_long path ≡ false → walk t (pieces_of path) ≡ Ok place → is_there t place ≡ false → IsIn t place
  free_in path place short walked free = walk_lands [] (pieces_of path) place (pieces_whole path (or_parts _ _ short).1) (lands_there [] root_there) walked free

  ends_from : (place : Place) (pieces : List Name) (q : Place) → All IsPiece pieces → ends_in_dots pieces ≡ false → is_root pieces ≡ false → walk_from t place pieces ≡ Ok q → IsIn t q
  ends_from place [] q parts dots root e = absurd (cc)
  ends_from place (piece ∷ []) q parts dots root e =
      let into = bind_ok (entered (entry_at t place)) (λ _. walk_from t (further place piece) []) q e in
      let dir = dir_at t place into.0 into.1 in
      let d = or_parts (is_dot piece) (is_dot_dot piece) dots in
      record {
        up = place;
        name = piece;
        number = dir.0;
        same = sym (ok_is (further place piece) q into.2) ∙ (λ i. cond (d.0 i) place (cond (d.1 i) (parent place) (place ++ piece ∷ [])));
        at = dir.1;
        dir = dir.2;
        named = is_name piece (All-head IsPiece piece [] parts) d.0 d.1;
      }
  ends_from place (piece ∷ next ∷ pieces) q parts dots root e =
      let into = bind_ok (entered (entry_at t place)) (λ _. walk_from t (further place piece) (next ∷ pieces)) q e in
      ends_from (further place piece) (next ∷ pieces) q (All-tail IsPiece piece (next ∷ pieces) parts) dots refl into.2

  -- a path that ends in a name leads into a directory
  pub ends_in : (path : List ℕ) (q : Place) → is_too_long path ≡ false → ends_in_dots (pieces_of path) ≡ false → is_root (pieces_of path) ≡ false → walk t (pieces_of path) ≡ Ok q → IsIn t q
  ends_in path q short dots root walked = ends_from [] (pieces_of path) q (pieces_whole path (or_parts _ _ short).1) dots root walked

  -- nothing lies below what is empty
  pub leaf_empty : (q : Place) → isnt_empty t q ≡ false → (x : Name) → number_at t (q ++ x ∷ []) ≡ None
  leaf_empty q empty x = by (number_at t (q ++ x ∷ [])) refl
    where
      by : (o : Option ℕ) → number_at t (q ++ x ∷ []) ≡ o → o ≡ None
      by None e = refl
      by (Some n) e =
          let some : 0 < length (names_in t q) = listed q (q ++ x ∷ []) x n t.names (ap (option_and_then only_name) (below-append q (x ∷ []))) e in
          let test : isnt_empty t q ≡ true = grind (arith, nat_tests) in
          absurd (let bad : true ≡ false = sym test ∙ empty in cc)

  -- nothing lies below a file, which isn't the root
  pub file_leaf : (q : Place) → is_there t q ≡ true → is_dir t q ≡ false → (q ≢ []) × ((x : Name) → number_at t (q ++ x ∷ []) ≡ None)
  file_leaf q there dir =
      let f = file_at t q there dir in (
        λ e. let one : f.0 ≡ 1 = same_Some f.0 1 (sym f.2 ∙ ap (number_at t) e ∙ tree.root) in
            let bad : Some Dir ≡ Some (File f.1) = sym tree.root_dir ∙ ap (node_of t) (sym one) ∙ f.3 in cc,
        λ x. by x (number_at t (q ++ x ∷ [])) refl,
      )
    where
      by : (x : Name) (o : Option ℕ) → number_at t (q ++ x ∷ []) ≡ o → o ≡ None
      by x None e = refl
      by x (Some n) e =
          let f = file_at t q there dir in
          let m = tree.parents q x n e in
          let one : m.0 ≡ f.0 = same_Some m.0 f.0 (sym m.1 ∙ f.2) in
          absurd (let bad : Some Dir ≡ Some (File f.1) = sym m.2 ∙ ap (node_of t) one ∙ f.3 in cc)

-- neither ends in one dot nor in two
pub neither_dots : (pieces : List Name) → ends_by is_dot pieces ≡ false → ends_by is_dot_dot pieces ≡ false → ends_in_dots pieces ≡ false
neither_dots [] a b = refl
neither_dots (piece ∷ []) a b = λ i. a i || b i
neither_dots (piece ∷ next ∷ pieces) a b = neither_dots (next ∷ pieces) a b
