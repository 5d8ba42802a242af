-- The places that are told are the tree's, in their order.
use Rattle.std.proofs.Common.{◌≡◌, ℕ, ◌<◌, ◌≤◌, ◌-◌, ◌^◌, cond, refl, sym, ◌∙◌, ap, subst, arith, List, [], ◌∷◌, ◌++◌, length, map, drop, Option, Some, None, append-nil}
use Rattle.std.specs.Prelude.{is_some}
use Rattle.std.specs.List.{cons_option}
use Rattle.std.specs.Option.{option_map, unwrap_or}
use Rattle.std.specs.FinMap as objects
use Rattle.std.proofs.lemmas.List.{take_all}
use Rattle.std.proofs.lemmas.Option.{same_Some}
use Rattle.kv_device.specs.Objects.{Objects, pairs_from, is_wanted}
use Rattle.kfs_objects.specs.Keys.{be64, entry_key}
use Rattle.kfs_objects.specs.Records.{read_entry, entry_value}
use Rattle.kfs_objects.proofs.RecordLaws.{read_entry_value}
use Rattle.kfs_path.specs.declared.call.TreeItem.{TreeItem}
use Rattle.kfs_model.specs.declared.Node.{Node}
use Rattle.kfs_model.specs.declared.Node.TheVariants.{Dir, File}
use Rattle.kfs_model.specs.Tree.{Place, Name, Tree, child, number_at, node_of}
use Rattle.kfs_model.specs.Step.{item_of}
use Rattle.kfs_core.specs.Stands.{Stands}
use Rattle.kfs_core.specs.Flat.{inode_in}
use Rattle.kfs_core.specs.Listing.{At, item_at, pairs_below, place_below, right_below, Lists, lists_none, lists_some, ListsAll}
use Rattle.kfs_core.proofs.Children.{child_is, kids, pairs_same, few_filter}
use Rattle.kfs_core.proofs.InOrder.{right_under, from, flat, flat-append, in_order, all_from_root, AreThere, there-append, there-filter, all_there}
use Rattle.kfs_core.proofs.Ways.{inode_at}

name_of_entry : (n : ℕ) (x : Name) → drop 9 (entry_key n x) ≡ x
unfolding be64
name_of_entry n x = refl

module _ (m : Objects) (t : Tree) (stands : Stands m t) (few : objects.len m < 2 ^ 32) where
  low : (place : Place) (n : ℕ) → number_at t place ≡ Some n → n < 2 ^ 64
  low place n e = let x = stands.tree.there place n e in let h = (stands.tree.numbers n x.0 x.1).1 in let l = stands.low in omega arith

  -- ---- the places right below one

  few_pairs : (place : Place) (n : ℕ) → number_at t place ≡ Some n → length (pairs_from m (entry_key n []) (entry_key n [])) ≤ 2 ^ 32 - 1
  unfolding pairs_from
  few_pairs place n at = let h = few_filter m t stands.tree stands.shows place n at (λ e. is_wanted (entry_key n []) (entry_key n []) e.0) (objects.entries m) in let l = objects.len-entries m in omega arith

  placed : (place : Place) (n : ℕ) (es : List (Place × ℕ)) → AreThere t.names es → map (place_below place) (kids n place es) ≡ right_under es place
  placed place n [] there = refl
  placed place n (e ∷ es) there = by (child place e.0) refl (placed place n es there.1)
    where
      by : (o : Option Name) → child place e.0 ≡ o → map (place_below place) (kids n place es) ≡ right_under es place
          → map (place_below place) (cons_option (option_map (λ x. (entry_key n x, entry_value e.1)) o) (kids n place es)) ≡ cond (is_some o) (e ∷ right_under es place) (right_under es place)
      by None is rest = rest
      by (Some x) is rest =
          let reads : unwrap_or (read_entry (entry_value e.1)) 0 ≡ e.1 = ap (λ o. unwrap_or o 0) (read_entry_value e.1 (low e.0 e.1 there.0)) in
          let path : place ++ drop 9 (entry_key n x) ∷ [] ≡ e.0 = ap (λ name. place ++ name ∷ []) (name_of_entry n x) ∙ sym (child_is place e.0 x is) in
          λ i. (path i, reads i) ∷ rest i

  -- a file has none
  none_under : (place : Place) (n : ℕ) (bytes : List ℕ) → number_at t place ≡ Some n → node_of t n ≡ Some (File bytes) → (es : List (Place × ℕ)) → AreThere t.names es → right_under es place ≡ []
  none_under place n bytes at file [] there = refl
  none_under place n bytes at file (e ∷ es) there = by (child place e.0) refl (none_under place n bytes at file es there.1)
    where
      by : (o : Option Name) → child place e.0 ≡ o → right_under es place ≡ [] → cond (is_some o) (e ∷ right_under es place) (right_under es place) ≡ []
      by None is rest = rest
      by (Some x) is rest =
          let up = stands.tree.parents place x e.1 (ap (number_at t) (sym (child_is place e.0 x is)) ∙ there.0) in
          let same : up.0 ≡ n = same_Some _ _ (sym up.1 ∙ at) in
          let bad : Some Dir ≡ Some (File bytes) = sym up.2 ∙ ap (node_of t) same ∙ file in
          absurd (cc)

  right_is : (place : Place) (n : ℕ) → number_at t place ≡ Some n → right_below m (place, n) ≡ right_under t.names place
  right_is place n at = let x = stands.tree.there place n at in by x.0 x.1
    where
      all : AreThere t.names t.names
      all = all_there t.names stands.tree.sorted_names

      by : (node : Node) → node_of t n ≡ Some node → map (place_below place) (pairs_below m n (inode_in m n)) ≡ right_under t.names place
      by Dir is =
          ap (λ i. map (place_below place) (pairs_below m n i)) (inode_at m t stands n Dir is)
          ∙ ap (map (place_below place)) (take_all (2 ^ 32 - 1) (pairs_from m (entry_key n []) (entry_key n [])) (few_pairs place n at) ∙ pairs_same m t stands.tree stands.shows place n at)
          ∙ placed place n t.names all
      by (File bytes) is = ap (λ i. map (place_below place) (pairs_below m n i)) (inode_at m t stands n (File bytes) is) ∙ sym (none_under place n bytes at is t.names all)

  -- ---- one place

  item_is : (place : Place) (n : ℕ) → number_at t place ≡ Some n → item_at place (inode_in m n) ≡ item_of t (place, n)
  item_is place n at = let x = stands.tree.there place n at in by x.0 x.1
    where
      by : (node : Node) → node_of t n ≡ Some node → item_at place (inode_in m n) ≡ item_of t (place, n)
      by Dir is = ap (item_at place) (inode_at m t stands n Dir is) ∙ sym (rw is refl)
      by (File bytes) is = ap (item_at place) (inode_at m t stands n (File bytes) is) ∙ sym (rw is refl)

  -- ---- all places

  tells : (todo : List At) (items : List TreeItem) → Lists m todo items → AreThere t.names todo → items ≡ map (item_of t) (flat t.names todo)
  tells todo items lists_none there = refl
  tells todo items (lists_some at rest more lists) there =
      let right = right_is at.0 at.1 there.0 in
      let next : AreThere t.names (right_below m at ++ rest) = there-append t.names (right_below m at) rest (subst (AreThere t.names) (sym right) (there-filter t.names t.names (λ e. is_some (child at.0 e.0)) (all_there t.names stands.tree.sorted_names))) there.1 in
      let later = tells (right_below m at ++ rest) more lists next in
      let below : flat t.names (right_below m at ++ rest) ≡ flat t.names (right_under t.names at.0) ++ flat t.names rest = ap (λ xs. flat t.names (xs ++ rest)) right ∙ flat-append t.names (right_under t.names at.0) rest in
      let here : from t.names at.0 ≡ at ∷ flat t.names (right_under t.names at.0) = in_order t stands.tree at.0 at.1 there.0 in
      (λ i. item_is at.0 at.1 there.0 i ∷ (later ∙ ap (map (item_of t)) below) i) ∙ sym (ap (λ xs. map (item_of t) (xs ++ flat t.names rest)) here)

  -- the listing of all is the tree's
  pub told_same : (items : List TreeItem) → ListsAll m items → items ≡ map (item_of t) t.names
  told_same items lists =
      tells (([], 1) ∷ []) items lists (stands.tree.root, tt)
      ∙ ap (map (item_of t)) (append-nil (from t.names []) ∙ all_from_root t.names)
